-- What is kept for calls, in rising order of their numbers, and what each operation makes of it.
use Rattle.std.specs.Prelude.{◌≡◌, ◌≢◌, List, Option, None, Some, Bool, false, ◌==◌}
use Rattle.std.specs.declared.cmp.Ordering.{Ordering}
use Rattle.std.specs.Ordering.{nat_cmp}
use Rattle.std.specs.BTreeMap.{is_at, insert_entry}
use Rattle.std.specs.List.Sorted.{IsStrictlySortedBy}
use Rattle.std.specs.Map.{keys_of, lookup, remove_entry, set_value}
use Rattle.hk_base.specs.declared.call.CallNo.{CallNo}

abbrev pub by_number : CallNo → CallNo → Ordering
by_number a b = nat_cmp a.0 b.0

module _ {V : Type 0} where
  -- what is kept for the call, if anything is
  abbrev pub kept_for : List (CallNo × V) → CallNo → Option V
  kept_for kept call = lookup (is_at (by_number call)) kept

  -- this is kept for the call too
  abbrev pub kept_with : List (CallNo × V) → CallNo → V → List (CallNo × V)
  kept_with kept call value = insert_entry by_number kept call value

  -- nothing is kept for the call any more
  abbrev pub kept_without : List (CallNo × V) → CallNo → List (CallNo × V)
  kept_without kept call = remove_entry (is_at (by_number call)) kept

  -- in place of what is kept for the call, if anything is, stands this
  abbrev pub kept_at : List (CallNo × V) → CallNo → V → List (CallNo × V)
  kept_at kept call value = set_value (is_at (by_number call)) kept value

  -- what is kept for all other calls is as it was
  abbrev pub AreOthersSame : CallNo → (CallNo → Option V) → (CallNo → Option V) → Type 0
  AreOthersSame call before after = (other : CallNo) → other ≢ call → after other ≡ before other

  -- ---- the newest, which stands beside the map
  -- it is that of the call
  abbrev pub is_newest : Option (CallNo × V) → CallNo → Bool
  is_newest None call = false
  is_newest (Some entry) call = entry.0.0 == call.0

  -- what is kept for it
  abbrev pub newest_value : Option (CallNo × V) → Option V
  newest_value None = None
  newest_value (Some entry) = Some entry.1

  -- both together
  abbrev pub all_kept : Option (CallNo × V) → List (CallNo × V) → List (CallNo × V)
  all_kept None kept = kept
  all_kept (Some entry) kept = insert_entry by_number kept entry.0 entry.1

  -- the map rises, and has nothing of the newest call
  pub record AreApart (newest : Option (CallNo × V)) (kept : List (CallNo × V)) : Type 0 where
    pub rises : IsStrictlySortedBy by_number (keys_of kept)
    pub apart : (entry : CallNo × V) → newest ≡ Some entry → kept_for kept entry.0 ≡ None
