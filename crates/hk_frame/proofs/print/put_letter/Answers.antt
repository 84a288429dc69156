use Rattle.hk_frame.proofs.Puts.{four, kept_before, on_error, kept_error}
use Rattle.hk_frame.proofs.print.put_letter.Goals as goal

pub returns-in_err-put_actor-2-clause-kept : goal.returns-in_err-put_actor-2-clause-kept
returns-in_err-put_actor-2-clause-kept c = on_error c.from_residual-in_err-put_actor-2.result _ _ (kept_before _ _ _ _ c.in_ok-put_number64.ensures.printed (kept_before _ _ _ _ c.in_ok-put_actor.ensures.printed c.in_err-put_actor-2.ensures.kept))

pub returns-clause-printed : goal.returns-clause-printed
returns-clause-printed c = four c.put_body.result _ _ _ _ _ _ _ _ _ c.in_ok-put_number64.ensures.printed c.in_ok-put_actor.ensures.printed c.in_ok-put_actor-2.ensures.printed c.put_body.ensures.printed

pub returns-clause-kept : goal.returns-clause-kept
returns-clause-kept c = kept_error c.put_body.result _ _ _ _ c.in_ok-put_number64.ensures.printed (kept_error c.put_body.result _ _ _ _ c.in_ok-put_actor.ensures.printed (kept_error c.put_body.result _ _ _ _ c.in_ok-put_actor-2.ensures.printed c.put_body.ensures.kept))
