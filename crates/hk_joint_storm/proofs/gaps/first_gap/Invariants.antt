-- None of the reads so far has a gap.
use Rattle.std.proofs.Common.{◌≡◌, drop}
use Rattle.hk_joint_storm.specs.Gaps.{first_gap}
use Rattle.hk_joint_storm.proofs.gaps.first_gap.Given as goal

abbrev pub invariant-loop-found : goal.invariant-loop-found
invariant-loop-found l = first_gap l.changes (drop l.found-index l.founds) ≡ first_gap l.changes l.founds
