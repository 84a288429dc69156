-- The calls so far, and then those of the events that are left, are all.
use Rattle.std.proofs.Common.{◌≡◌, ◌++◌, drop}
use Rattle.hk_storm.specs.Calls.{calls_in}
use Rattle.hk_storm.proofs.calls.put_calls.Given as goal

abbrev pub invariant-loop-before : goal.invariant-loop-before
invariant-loop-before l = l.calls.items ++ calls_in (drop l.before l.run.events) ≡ l.fn.calls.items ++ calls_in l.run.events
