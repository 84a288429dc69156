use Rattle.hk_safety.proofs.Completions.{moments_follow}
use Rattle.hk_joint.proofs.laws.moments_follow_completions.Goals as goal

pub returns : goal.returns
returns c = moments_follow
