use Rattle.hk_joint.proofs.OneByOne.{batches_found}
use Rattle.hk_joint.proofs.laws.batches_are_found.Goals as goal

pub returns : goal.returns
returns c = batches_found
