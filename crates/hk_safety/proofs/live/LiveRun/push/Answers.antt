use Rattle.std.proofs.Common.{rules, ◌≡◌, ℕ, ◌+◌, ◌++◌, ◌∷◌, [], length, length-append, sym, ap, ◌∙◌}
use Rattle.hk_safety.specs.Run.{RunState}
use Rattle.hk_safety.specs.Kept.{IsKeptOf}
use Rattle.hk_safety.proofs.Asked.{made_then}
use Rattle.hk_safety.proofs.Telling.{may_make}
use Rattle.hk_safety.proofs.live.LiveRun.push.Goals as goal

pub make-requires : goal.make-requires
make-requires c =
    let run : RunState = record { header = c.self.inside.header; events = c.self.inside.past.events } in
    let kept : IsKeptOf c.in-Some.kept run = search rules in
    may_make c.runs_keep_parts.ensures c.in-Some.kept run c.args.event.now kept c.self.invariant.0 c.requires

pub invariant_of-self-in-Ok : goal.invariant_of-self-in-Ok
invariant_of-self-in-Ok c =
    let run : RunState = record { header = c.self.inside.header; events = c.self.inside.past.events } in
    let kept : IsKeptOf c.in-Some.kept run = search rules in
    let one_more : c.in-Some-checked_add.number ≡ c.self.inside.count + 1 = search rules in
    let number : c.in-Some-checked_add.number ≡ length run.events + 1 = one_more ∙ ap (λ (n : ℕ). n + 1) c.self.invariant.1 in
    let next = made_then c.runs_keep_parts.ensures c.in-Some-checked_add.number c.in-Some.kept c.make.new.self c.self.inside.header run.events c.note.new.self.events c.args.event.now c.make.result
    c.in-Ok.shown c.in-Ok.is number kept c.self.invariant.0 c.requires c.make.ensures c.note.ensures in
    (next.0, number ∙ sym (ap length c.note.ensures ∙ length-append run.events (c.args.event.now ∷ [])), next.1)
