-- A row put behind the last one.
use Rattle.std.proofs.Common.{◌≡◌, ℕ, ◌-◌, ◌++◌, true, List, [], ◌∷◌, length, refl, ap, ◌∙◌, option_map, arith, slice_get}
use Rattle.std.specs.declared.cmp.Ordering.TheVariants.{Less}
use Rattle.std.specs.Cmp.Lexicographic.{nat_list_cmp_total}
use Rattle.std.specs.List.{AllByRecursion}
use Rattle.hk_base.specs.declared.letter.CopyItem.{CopyItem}
use Rattle.hk_copy.specs.Batches.{key_cmp, IsRising, is_after, last_key}
use Rattle.hk_copy.proofs.Rising.{less_is}

last_at : (row : CopyItem) (rows : List CopyItem) → last_key (row ∷ rows) ≡ option_map (λ r. r.key) (slice_get (row ∷ rows) (length rows))
last_at row [] = refl
last_at row (next ∷ rest) = last_at next rest

pub last_is : (rows : List CopyItem) → last_key rows ≡ option_map (λ r. r.key) (slice_get rows (length rows - 1))
last_is [] = refl
last_is (row ∷ rows) =
    let one : length rows ≡ length (row ∷ rows) - 1 = omega arith in
    last_at row rows ∙ ap (λ (k : ℕ). option_map (λ (r : CopyItem). r.key) (slice_get (row ∷ rows) k)) one

all_push : (P : CopyItem → Type 0) (rows : List CopyItem) (item : CopyItem) → AllByRecursion P rows → P item → AllByRecursion P (rows ++ item ∷ [])
all_push P [] item all one = (one, tt)
all_push P (row ∷ rows) item all one = (all.0, all_push P rows item all.1 one)

-- what is behind the last row is behind each
above_all : (row : CopyItem) (rows : List CopyItem) (item : CopyItem) → IsRising (row ∷ rows) → is_after (last_key (row ∷ rows)) item ≡ true → key_cmp row.key item.key ≡ Less
above_all row [] item rising e = less_is (key_cmp row.key item.key) e
above_all row (next ∷ rest) item rising e = nat_list_cmp_total.trans row.key next.key item.key rising.0.0 (above_all next rest item rising.1 e)

pub rising_push : (rows : List CopyItem) (item : CopyItem) → IsRising rows → is_after (last_key rows) item ≡ true → IsRising (rows ++ item ∷ [])
rising_push [] item rising e = (tt, tt)
rising_push (row ∷ []) item rising e = ((above_all row [] item rising e, tt), (tt, tt))
rising_push (row ∷ next ∷ rest) item rising e = (all_push _ (next ∷ rest) item rising.0 (above_all row (next ∷ rest) item rising e), rising_push (next ∷ rest) item rising.1 e)
