use Rattle.hk_joint.proofs.ByEvent.{placed_joint}
use Rattle.hk_joint.proofs.laws.placed_are_joint.Goals as goal

pub returns : goal.returns
returns c = placed_joint c.runs_keep_parts.ensures c.event_is_effects.ensures
