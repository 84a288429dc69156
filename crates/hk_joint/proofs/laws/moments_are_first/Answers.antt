use Rattle.hk_safety.proofs.Firsts.{moments_first}
use Rattle.hk_joint.proofs.laws.moments_are_first.Goals as goal

pub returns : goal.returns
returns c = moments_first
