-- What a node keeps of what it heard from its managers: a number for each, that of manager 0 first.
use Rattle.std.specs.Prelude.{◌≡◌, ℕ, ◌*◌, ◌≤◌, List, length, max, Bool, nat_le, nat_lt, ◌==◌, slice_index, slice_set}
use Rattle.std.specs.List.{list_all, count_by, AllByRecursion}
use Rattle.hk_base.specs.declared.time.TheConstants.{MAX_TIME}

-- the number of this manager rises to the value, if it was less
abbrev pub raised : ℕ → ℕ → List ℕ → List ℕ
raised manager value kept = slice_set kept manager (max (slice_index kept manager) value)

-- nothing greater was heard from any manager
abbrev pub is_greatest : ℕ → List ℕ → Bool
is_greatest value kept = list_all (λ heard. nat_le heard value) kept

-- just this was heard from more than half of the managers
abbrev pub has_majority : ℕ → List ℕ → Bool
has_majority value kept = nat_lt (length kept) (2 * count_by (λ heard. heard == value) kept)

-- There are at most nine managers, and of each an end within the limit and an epoch is kept.
pub record AreHeard (managers : ℕ) (ends activated : List ℕ) : Type 0 where
  pub few : managers ≤ 9
  pub each_end : length ends ≡ managers
  pub each_epoch : length activated ≡ managers
  pub within : AllByRecursion (λ end. end ≤ MAX_TIME) ends
