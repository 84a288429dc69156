use Rattle.hk_durable.specs.Batches.{BatchState, TakeAll}
use Rattle.hk_durable.proofs.batch.Batch.take_all.Given as goal

-- what the rest makes of the batch, all make of it
abbrev pub invariant-loop-parcel : goal.invariant-loop-parcel
invariant-loop-parcel l = (after : BatchState) → TakeAll l.parcel-iterator.rest.items l.self after → TakeAll l.fn.parcels.items l.fn.self after
