-- The calls so far, and then those of the runs that are left, are all.
use Rattle.std.proofs.Common.{◌≡◌, ◌++◌, drop}
use Rattle.hk_storm.specs.Calls.{all_calls}
use Rattle.hk_storm.proofs.calls.all_calls.Given as goal

abbrev pub invariant-loop-run : goal.invariant-loop-run
invariant-loop-run l = l.calls.items ++ all_calls (drop l.run-index l.runs) ≡ all_calls l.runs
