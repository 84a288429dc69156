-- The places from `at` on are known.
use Rattle.std.proofs.Common.{◌≡◌, ℕ, ◌≤◌, ◌+◌, length, drop, get_or}
use Rattle.hk_history.specs.Tests.{nearest}
use Rattle.hk_history.proofs.case.Case.nearest.Given as goal

abbrev pub invariant-loop-at : goal.invariant-loop-at
invariant-loop-at l = record {
  within : l.at ≤ length l.self.items.now;
  long : length l.places.items ≡ length l.self.items.now + 1;
  known : (k : ℕ) → l.at ≤ k → k ≤ length l.self.items.now → get_or l.places.items k 0 ≡ nearest l.self.order.now (drop k l.self.items.now);
}

abbrev pub decreases-loop-at : goal.decreases-loop-at
decreases-loop-at l = l.at
