-- The snapshots so far and those that are left are all.
use Rattle.std.proofs.Common.{◌≡◌, ◌++◌, drop}
use Rattle.hk_joint_reads.specs.Reads.{snapshots}
use Rattle.hk_joint_reads.proofs.judge.snapshots.Given as goal

abbrev pub invariant-loop-look : goal.invariant-loop-look
invariant-loop-look l = l.found ++ snapshots (drop l.look-index l.looks) ≡ snapshots l.looks
