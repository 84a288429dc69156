use Rattle.hk_durable.proofs.Batching.{batches}
use Rattle.hk_durable.proofs.law.turns_make_batches.Goals as goal

pub returns : goal.returns
returns c = batches
