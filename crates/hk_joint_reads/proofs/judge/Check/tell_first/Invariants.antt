-- Nothing was told of the keys before.
use Rattle.std.proofs.Common.{◌≡◌, drop}
use Rattle.hk_joint_reads.specs.Reads.{first_told}
use Rattle.hk_joint_reads.specs.Checks.{told_by}
use Rattle.hk_joint_reads.proofs.judge.Check.tell_first.Given as goal

abbrev pub invariant-loop-look : goal.invariant-loop-look
invariant-loop-look l = first_told (told_by l.self) (drop l.look-index l.looks) ≡ first_told (told_by l.self) l.looks
