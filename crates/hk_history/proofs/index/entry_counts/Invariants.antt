-- The counts are those of the entries so far.
use Rattle.std.proofs.Common.{◌≡◌, ℕ, take}
use Rattle.std.specs.Prelude.{count_by, unwrap_or}
use Rattle.std.specs.Ordering.{nat_cmp}
use Rattle.std.specs.BTreeMap.{get}
use Rattle.hk_history.specs.Legal.{is_entry}
use Rattle.hk_history.proofs.index.entry_counts.Given as goal

abbrev pub invariant-loop-entry : goal.invariant-loop-entry
invariant-loop-entry l = (n : ℕ) → unwrap_or (get nat_cmp l.counts n) 0 ≡ count_by (is_entry n) (take l.entry-index l.order)
