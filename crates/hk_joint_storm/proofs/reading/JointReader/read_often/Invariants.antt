-- What the reads so far found.
use Rattle.std.proofs.Common.{◌≤◌}
use Rattle.hk_joint_storm.specs.Concluded.{AreFounds}
use Rattle.hk_joint_storm.proofs.reading.JointReader.read_often.Given as goal

abbrev pub invariant-loop-read : goal.invariant-loop-read
invariant-loop-read g l = AreFounds l._read l.founds × (l._read ≤ l.reads)
