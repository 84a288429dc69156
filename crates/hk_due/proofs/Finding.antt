-- The keys behind one, as a look-up finds them.
use Rattle.std.proofs.Common.{◌≡◌, ℕ, List, [], ◌∷◌, Bool, true, false, cond, not, ◌&&◌, Some, None, refl, ap}
use Rattle.std.specs.Ordering.{is_lt}
use Rattle.std.specs.List.{filter}
use Rattle.std.specs.BTreeMap.Range.{entries_between}
use Rattle.std.specs.declared.ops.Bound.TheVariants.{Excluded, Unbounded}
use Rattle.hk_copy.specs.Batches.{key_cmp}
use Rattle.hk_due.specs.Keys.{is_later}

abbrev Entries : Type 0
Entries = List (List ℕ × ℕ)

pub later_between : (key : List ℕ) (es : Entries) → filter (is_later (Some key)) es ≡ entries_between key_cmp (Excluded key) Unbounded es
later_between key [] = refl
later_between key (e ∷ es) = by_test (is_lt (key_cmp key e.0)) (later_between key es)
  where
    by_test : (b : Bool) → filter (is_later (Some key)) es ≡ entries_between key_cmp (Excluded key) Unbounded es →
        cond b (e ∷ filter (is_later (Some key)) es) (filter (is_later (Some key)) es) ≡
        cond (b && not false) (e ∷ entries_between key_cmp (Excluded key) Unbounded es) (entries_between key_cmp (Excluded key) Unbounded es)
    by_test true more = ap (λ (l : Entries). e ∷ l) more
    by_test false more = more

-- all are behind the start
pub all_later : (es : Entries) → filter (is_later None) es ≡ es
all_later [] = refl
all_later (e ∷ es) = ap (λ (l : Entries). e ∷ l) (all_later es)
