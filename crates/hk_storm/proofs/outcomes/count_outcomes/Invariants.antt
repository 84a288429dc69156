-- What the runs that are left come to, all come to.
use Rattle.std.proofs.Common.{◌≡◌, drop}
use Rattle.hk_storm.specs.Concluded.{EachRun}
use Rattle.hk_storm.specs.Outcomes.{with_runs, outcomes_of}
use Rattle.hk_storm.proofs.outcomes.count_outcomes.Given as goal

abbrev pub invariant-loop-run : goal.invariant-loop-run
invariant-loop-run l = (with_runs l.outcomes (drop l.run-index l.runs) ≡ outcomes_of l.runs) × EachRun (drop l.run-index l.runs)
