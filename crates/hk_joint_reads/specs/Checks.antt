-- The checks of a read of several keys by their names.
use Rattle.std.specs.Prelude.{Option}
use Rattle.hk_joint_reads.specs.declared.judge.Check.{Check}
use Rattle.hk_joint_reads.specs.declared.judge.Check.TheVariants as of_check
use Rattle.hk_joint_reads.specs.declared.look.KeyLoads.{KeyLoads}
use Rattle.hk_joint_reads.specs.declared.read.Joint.{Joint}
use Rattle.hk_joint_reads.specs.Reads.{elsewhere, moved, busy, large}

-- what the check of this name tells of a key
abbrev pub told_by : Check → KeyLoads → Option Joint
told_by of_check.Elsewhere l = elsewhere l
told_by of_check.Moved l = moved l
told_by (of_check.Busy end now skew) l = busy end now skew l
told_by of_check.Large l = large l
