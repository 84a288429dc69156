use Rattle.hk_frame.proofs.Puts.{three}
use Rattle.hk_frame.proofs.print.put_item.Goals as goal

pub returns-clause-printed : goal.returns-clause-printed
returns-clause-printed c = three c.put_state.result _ _ _ _ _ _ _ c.in_ok-put_key.ensures.printed c.in_ok-put_stamp.ensures.printed c.put_state.ensures.printed
