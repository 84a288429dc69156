use Rattle.std.proofs.Common.{◌≡◌, ◌++◌, drop}
use Rattle.hk_joint.specs.Batch.{calls_of}
use Rattle.hk_joint.proofs.batch.calls_of.Given as goal

-- the calls so far and those that are left are all
abbrev pub invariant-loop-reading : goal.invariant-loop-reading
invariant-loop-reading l = l.calls ++ calls_of (drop l.reading-index l.batch) ≡ calls_of l.batch
