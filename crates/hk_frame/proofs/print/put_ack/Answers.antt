use Rattle.hk_frame.proofs.Puts.{three, kept_error}
use Rattle.hk_frame.proofs.print.put_ack.Goals as goal

pub returns-clause-printed : goal.returns-clause-printed
returns-clause-printed c = three c.put_stamp-2.result _ _ _ _ _ _ _ c.in_ok-put_key.ensures.printed c.in_ok-put_stamp.ensures.printed c.put_stamp-2.ensures.printed

pub returns-clause-kept : goal.returns-clause-kept
returns-clause-kept c = kept_error c.put_stamp-2.result _ _ _ _ c.in_ok-put_key.ensures.printed (kept_error c.put_stamp-2.result _ _ _ _ c.in_ok-put_stamp.ensures.printed c.put_stamp-2.ensures.kept)
