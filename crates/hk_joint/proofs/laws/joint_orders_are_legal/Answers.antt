use Rattle.hk_joint.proofs.Legality.{joint_legal}
use Rattle.hk_joint.proofs.laws.joint_orders_are_legal.Goals as goal

pub returns : goal.returns
returns c = joint_legal c.runs_keep_parts.ensures c.event_is_effects.ensures c.runs_are_legal.ensures
