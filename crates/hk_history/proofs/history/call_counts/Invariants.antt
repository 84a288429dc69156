-- The counts are those of the events so far.
use Rattle.std.proofs.Common.{◌≡◌, ℕ, take}
use Rattle.std.specs.Prelude.{count_by, unwrap_or}
use Rattle.std.specs.Ordering.{nat_cmp}
use Rattle.std.specs.BTreeMap.{get}
use Rattle.hk_history.specs.History.{is_call}
use Rattle.hk_history.proofs.history.call_counts.Given as goal

abbrev pub invariant-loop-event : goal.invariant-loop-event
invariant-loop-event l = (n : ℕ) → unwrap_or (get nat_cmp l.counts n) 0 ≡ count_by (is_call n) (take l.event-index l.items)
