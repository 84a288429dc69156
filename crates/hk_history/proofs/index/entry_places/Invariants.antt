-- What is kept so far, and then what is left, gives each place.
use Rattle.std.proofs.Common.{◌≡◌, ℕ, drop}
use Rattle.std.specs.Option.{option_or}
use Rattle.std.specs.List.{position_from}
use Rattle.std.specs.Ordering.{nat_cmp}
use Rattle.std.specs.BTreeMap.{get}
use Rattle.hk_history.specs.Legal.{is_entry}
use Rattle.hk_history.proofs.index.entry_places.Given as goal

abbrev pub invariant-loop-place : goal.invariant-loop-place
invariant-loop-place l = (n : ℕ) → option_or (get nat_cmp l.places n) (position_from (is_entry n) l.place (drop l.place l.order)) ≡ position_from (is_entry n) 0 l.order
