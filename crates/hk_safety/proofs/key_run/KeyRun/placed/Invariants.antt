use Rattle.std.proofs.Common.{◌≡◌, ◌++◌, flat_map}
use Rattle.hk_safety.specs.Placed.{placed_at}
use Rattle.hk_safety.proofs.key_run.KeyRun.placed.Given as goal

abbrev pub invariant-loop-stamp : goal.invariant-loop-stamp
invariant-loop-stamp l = l.placed.items ++ flat_map placed_at l.stamp-iterator ≡ flat_map placed_at l.self.stamps
