use Rattle.std.proofs.Common.{◌≡◌, [], drop}
use Rattle.hk_roll.specs.Rolls.{replayed, founding}
use Rattle.hk_roll.proofs.roll.Roll.found.Given as goal

abbrev pub invariant-loop-place : goal.invariant-loop-place
invariant-loop-place l = replayed l.roll (founding l.place (drop l.place l.hosts)) ≡ replayed [] (founding 0 l.hosts)
