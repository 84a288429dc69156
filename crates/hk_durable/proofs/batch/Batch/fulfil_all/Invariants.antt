use Rattle.std.proofs.Common.{drop}
use Rattle.hk_durable.specs.Batches.{BatchState, FulfilFrom}
use Rattle.hk_durable.proofs.batch.Batch.fulfil_all.Given as goal

-- what the intents from here on make of the batch, all make of it
abbrev pub invariant-loop-shard : goal.invariant-loop-shard
invariant-loop-shard l = (after : BatchState) → FulfilFrom l.shard (drop l.shard l.intents) l.self after → FulfilFrom 0 l.intents l.fn.self after
