use Rattle.hk_frame.proofs.Puts.{three, kept_error}
use Rattle.hk_frame.proofs.print.put_vote.Goals as goal

pub returns-in_ok-put_ballot-in-Some-clause-printed : goal.returns-in_ok-put_ballot-in-Some-clause-printed
returns-in_ok-put_ballot-in-Some-clause-printed c = rw c.in-Some.is (three c.put_view.result _ _ _ _ _ _ _ c.in_ok-put_byte-in-Some.ensures.printed c.in_ok-put_ballot-in-Some.ensures.printed c.put_view.ensures.printed)

pub returns-in_ok-put_ballot-in-Some-clause-kept : goal.returns-in_ok-put_ballot-in-Some-clause-kept
returns-in_ok-put_ballot-in-Some-clause-kept c = kept_error c.put_view.result _ _ _ _ c.in_ok-put_byte-in-Some.ensures.printed (kept_error c.put_view.result _ _ _ _ c.in_ok-put_ballot-in-Some.ensures.printed c.put_view.ensures.kept)
