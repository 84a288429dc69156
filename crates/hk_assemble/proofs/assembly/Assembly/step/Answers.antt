use Rattle.std.proofs.Common.{rules, ◌≡◌, map, Err, sym, subst}
use Rattle.hk_merge.specs.Merged.{Step}
use Rattle.hk_merge.specs.Placed.{item_of}
use Rattle.hk_assemble.specs.SentLetters.{with_letters}
use Rattle.hk_assemble.specs.Assemblies.{IsNext}
use Rattle.hk_assemble.proofs.Advancing.{step_done, step_fails}
use Rattle.hk_assemble.proofs.assembly.Assembly.step.Goals as goal

pub returns-in_err-make_step : goal.returns-in_err-make_step
returns-in_err-make_step c = λ header front on.
    let done : Unit {0} = tt in
    let told : c.from_residual-in_err-make_step.result ≡ Err c.in_err-make_step.field-0.0 = search rules in
    subst (λ r. IsNext r c.args.self.now (record { run = c.make_step.new.run; sent = c.args.self.now.sent; kept = c.args.self.now.kept }) header (map item_of c.args.slots.now) front (Step c.args.node c.args.entry.now)) (sym told)
    (step_fails header c.args.self.now.run c.args.self.now.sent.entries c.args.self.now.kept.entries front on done c.in_err-make_step.field-0.0 (map item_of c.args.slots.now) c.args.node c.args.entry.now c.in_ok-event.event c.make_step.new.run
    c.in_ok-event.ensures.found c.in_err-make_step.ensures)

pub returns : goal.returns
returns c = λ header front on.
    let puts : c.note_letters.new.sent.entries ≡ with_letters c.args.self.now.sent.entries c.in_ok-first.first c.args.entry.now.ticket c.args.entry.now.letters = search rules in
    step_done header c.args.self.now.run c.args.self.now.sent.entries c.args.self.now.kept.entries front on c.in_ok-make_step.field-0 c.letters_stay_known.ensures c.args.node c.args.entry.now c.in_ok-event.event c.in_ok-first.first c.make_step.new.run
    c.note_letters.new.sent.entries c.in_ok-event.ensures.found c.in_ok-first.ensures c.in_ok-make_step.ensures puts
