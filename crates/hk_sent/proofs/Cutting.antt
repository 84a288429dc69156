-- What is cut of rows keeps the limit that it was cut to.
use Rattle.std.proofs.Common.{◌≡◌, ◌≤◌, ◌-◌, ℕ, zero, suc, List, [], ◌∷◌, Bool, true, false, cond, nat_le, Option, Some, None, refl, arith}
use Rattle.std.specs.List.{sum_by}
use Rattle.std.proofs.lemmas.Bool.Decides.{nat_tests}
use Rattle.std.proofs.lemmas.List.Sums.{sum_by-cons}
use Rattle.hk_base.specs.declared.call.Content.{Content}
use Rattle.hk_base.specs.declared.letter.CopyItem.{CopyItem}
use Rattle.hk_copy.specs.Batches.{cut, size_of, data_size as row_data_size, with_taken, nothing_taken}
use Rattle.hk_frame.specs.Laws.{data_size, item_size}

-- an item and the row that it copies have one size
same_data : (content : Option Content) → row_data_size content ≡ data_size content
same_data None = refl
same_data (Some content) = refl

same_size : (item : CopyItem) → size_of item ≡ item_size item
same_size item = omega (arith, same_data item.content)

pub cut_small : (room bytes : ℕ) (rows : List CopyItem) → sum_by item_size (cut room bytes rows).taken ≤ bytes
cut_small room bytes [] = omega arith
cut_small zero bytes (item ∷ rest) = omega arith
cut_small (suc room) bytes (item ∷ rest) = by_size (nat_le (size_of item) bytes) refl (cut_small room (bytes - size_of item) rest)
  where
    by_size : (b : Bool) → nat_le (size_of item) bytes ≡ b → sum_by item_size (cut room (bytes - size_of item) rest).taken ≤ bytes - size_of item →
        sum_by item_size (cond b (with_taken item (cut room (bytes - size_of item) rest)) (nothing_taken (item ∷ rest))).taken ≤ bytes
    by_size true fits small =
        let same = same_size item in
        let more = sum_by-cons item_size item (cut room (bytes - size_of item) rest).taken in
        grind (arith, nat_tests)
    by_size false over small = omega arith
