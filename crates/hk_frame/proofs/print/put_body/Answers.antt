use Rattle.hk_frame.specs.Frames.{body_bytes}
use Rattle.hk_frame.proofs.Puts.{two}
use Rattle.hk_frame.proofs.print.put_body.Goals as goal

pub returns-in_ok-put_ballot-in-Accept-clause-printed : goal.returns-in_ok-put_ballot-in-Accept-clause-printed
unfolding body_bytes
returns-in_ok-put_ballot-in-Accept-clause-printed c = rw c.in-Accept.is (two c.put_view.result _ _ _ _ _ c.in_ok-put_ballot-in-Accept.ensures.printed c.put_view.ensures.printed)
