use Rattle.hk_frame.proofs.Puts.{two, kept_error}
use Rattle.hk_frame.proofs.print.put_frame.Goals as goal

pub returns-clause-printed : goal.returns-clause-printed
returns-clause-printed c = two c.put_fields.result _ _ _ _ _ c.in_ok-put_number32.ensures.printed c.put_fields.ensures.printed

pub returns-clause-kept : goal.returns-clause-kept
returns-clause-kept c = kept_error c.put_fields.result _ _ _ _ c.in_ok-put_number32.ensures.printed c.put_fields.ensures.kept
