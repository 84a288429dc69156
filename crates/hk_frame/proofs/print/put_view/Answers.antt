use Rattle.hk_frame.proofs.Puts.{three, kept_error}
use Rattle.hk_frame.proofs.print.put_view.Goals as goal

pub returns-clause-printed : goal.returns-clause-printed
returns-clause-printed c = rw (← c.as_slice.ensures) (three c.put_members.result _ _ _ _ _ _ _ c.in_ok-put_number64.ensures.printed c.in_ok-put_number32.ensures.printed c.put_members.ensures.printed)

pub returns-clause-kept : goal.returns-clause-kept
returns-clause-kept c = kept_error c.put_members.result _ _ _ _ c.in_ok-put_number64.ensures.printed (kept_error c.put_members.result _ _ _ _ c.in_ok-put_number32.ensures.printed c.put_members.ensures.kept)
