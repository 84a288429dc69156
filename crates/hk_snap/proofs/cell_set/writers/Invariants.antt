use Rattle.std.proofs.Common.{◌≡◌, ℕ, [], length}
use Rattle.hk_snap.specs.Ends.{seen_at}
use Rattle.hk_snap.proofs.cell_set.writers.Given as goal

abbrev pub invariant-loop-k : goal.invariant-loop-k
invariant-loop-k l = (length l.all.items ≡ l._k) × ((cell : ℕ) → seen_at l.all.items cell ≡ [])
