use Rattle.std.proofs.Common.{◌≡◌, [], drop}
use Rattle.hk_roll.specs.Rolls.{replayed, founding}
use Rattle.hk_roll.proofs.roll.Roll.replay.Given as goal

abbrev pub invariant-loop-binding : goal.invariant-loop-binding
invariant-loop-binding l = replayed l.roll (drop l.binding-index l.bindings) ≡ replayed (replayed [] (founding 0 l.hosts)) l.bindings
