use Rattle.std.proofs.Common.{refl}
use Rattle.hk_joint.proofs.worked.worked_runs.Goals as goal

pub returns-clause-batch : goal.returns-clause-batch
returns-clause-batch c = record { order = refl; batches = refl }

pub returns-clause-moments : goal.returns-clause-moments
returns-clause-moments c = record { first = refl; second = refl; order = refl; batches = refl }
