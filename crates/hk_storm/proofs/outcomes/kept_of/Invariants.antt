-- The run is made again up to the events that are left.
use Rattle.std.proofs.Common.{drop}
use Rattle.hk_storm.proofs.Outcoming.{IsRemade}
use Rattle.hk_storm.proofs.outcomes.kept_of.Given as goal

abbrev pub invariant-loop-before : goal.invariant-loop-before
invariant-loop-before l = IsRemade l.run l.world l.kept.entries (drop l.before l.run.events)
