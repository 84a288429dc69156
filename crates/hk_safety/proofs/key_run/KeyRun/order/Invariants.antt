use Rattle.std.proofs.Common.{◌≡◌, ◌++◌, flat_map}
use Rattle.hk_safety.specs.Kept.{entries_at}
use Rattle.hk_safety.proofs.key_run.KeyRun.order.Given as goal

abbrev pub invariant-loop-stamp : goal.invariant-loop-stamp
invariant-loop-stamp l = l.order ++ flat_map entries_at l.stamp-iterator ≡ flat_map entries_at l.self.stamps
