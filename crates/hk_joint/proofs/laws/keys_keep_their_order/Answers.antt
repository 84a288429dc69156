use Rattle.hk_joint.proofs.KeyOrder.{keys_keep}
use Rattle.hk_joint.proofs.laws.keys_keep_their_order.Goals as goal

pub returns : goal.returns
returns c = keys_keep c.runs_keep_parts.ensures c.event_is_effects.ensures
