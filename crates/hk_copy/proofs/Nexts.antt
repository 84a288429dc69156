-- The first row behind a key.
use Rattle.std.proofs.Common.{◌≡◌, Bool, true, false, cond, List, [], ◌∷◌, Some, refl, find, option_map}
use Rattle.std.specs.List.{filter}
use Rattle.hk_base.specs.declared.letter.CopyItem.{CopyItem}
use Rattle.hk_copy.specs.Batches.{next_key}

-- the first that passes is the first of those that pass
pub next_of_filter : (t : CopyItem → Bool) (rows : List CopyItem) → next_key (filter t rows) ≡ option_map (λ row. row.key) (find t rows)
next_of_filter t [] = refl
next_of_filter t (row ∷ rows) = by_test (next_of_filter t rows) (t row)
  where
    by_test : next_key (filter t rows) ≡ option_map (λ r. r.key) (find t rows) → (b : Bool) →
        next_key (cond b (row ∷ filter t rows) (filter t rows)) ≡ option_map (λ r. r.key) (cond b (Some row) (find t rows))
    by_test later true = refl
    by_test later false = later
