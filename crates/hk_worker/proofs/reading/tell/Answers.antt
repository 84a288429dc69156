use Rattle.std.proofs.Common.{rules, ◌≡◌, false, None, sym, ◌∙◌}
use Rattle.hk_worker.proofs.Judged.{read_refused, read_behind, not_out_of_lease}
use Rattle.hk_worker.proofs.reading.tell.Goals as goal

pub returns-in-Some-refusal-clause-told : goal.returns-in-Some-refusal-clause-told
returns-in-Some-refusal-clause-told g c = λ key old mid grown reads.
    read_refused (g.C.DeskClock.was_read c.args.clock.now) c.args.reader.now c.refusal.new.reader c.refusal.ensures.looked key old mid c.args.local grown reads
    c.in-Some-refusal.why c.in-Some-refusal.ensures.over

pub returns-clause-told : goal.returns-clause-told
returns-clause-told g c = λ key old mid grown reads.
    let none : c.refusal.result ≡ None = search rules in
    let out : c.is_out_of_lease.result ≡ false = search rules in
    read_behind (g.C.DeskClock.was_read c.args.clock.now) c.args.reader.now c.refusal.new.reader c.refusal.ensures.looked key old mid c.args.local grown reads
    c.in-Some.answer (sym c.answer_of.ensures ∙ c.in-Some.is) (not_out_of_lease c.in-Some.answer (sym c.is_out_of_lease.ensures ∙ out)) (c.refusal.ensures.runs none)
