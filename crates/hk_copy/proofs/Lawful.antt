-- The laws of batches.
use Rattle.std.proofs.Common.{◌≡◌, ℕ, zero, suc, ◌≤◌, ◌+◌, ◌-◌, ◌++◌, Bool, true, false, cond, List, [], ◌∷◌, length, Option, Some, None, IfSome, nat_le, refl, ap, ◌∙◌, arith}
use Rattle.std.specs.Option.{option_or}
use Rattle.std.proofs.lemmas.Bool.Decides.{nat_tests}
use Rattle.hk_base.specs.Key.{IsData}
use Rattle.hk_base.specs.declared.call.Content.{Content}
use Rattle.hk_base.specs.declared.letter.CopyItem.{CopyItem}
use Rattle.hk_copy.specs.Batches.{Cut, IsRising, cut, data_size, size_of, last_key, rows_after, with_taken, nothing_taken}
use Rattle.hk_copy.specs.Laws.{IsWhole, TakesFirst, GoesOnBehind}
use Rattle.hk_copy.proofs.Rising.{step_row}

pub is_whole : IsWhole
is_whole room bytes [] = refl
is_whole zero bytes (item ∷ rest) = refl
is_whole (suc room) bytes (item ∷ rest) = by_test (is_whole room (bytes - size_of item) rest) (nat_le (size_of item) bytes)
  where
    chosen : Bool → Cut
    chosen b = cond b (with_taken item (cut room (bytes - size_of item) rest)) (nothing_taken (item ∷ rest))

    by_test : (cut room (bytes - size_of item) rest).taken ++ (cut room (bytes - size_of item) rest).left ≡ rest → (b : Bool) → (chosen b).taken ++ (chosen b).left ≡ item ∷ rest
    by_test later true = ap (λ (l : List CopyItem). item ∷ l) later
    by_test later false = refl

data_fits : (content : Option Content) → IfSome content (λ c. IsData c.bytes) → data_size content ≤ 1048576
data_fits None is = omega arith
data_fits (Some c) is = is.short

pub takes_first : TakesFirst
takes_first room item rest row = (taken, rw light refl)
  where
    taken : List CopyItem
    taken = (cut room (2097152 - size_of item) rest).taken

    short : length item.key ≤ 250
    short = row.key.short

    small : data_size item.content ≤ 1048576
    small = data_fits item.content row.content

    fits : (a b : ℕ) → a ≤ 250 → b ≤ 1048576 → nat_le (a + b) 2097152 ≡ true
    fits a b k d = grind (arith, nat_tests)

    light : nat_le (size_of item) 2097152 ≡ true
    light = fits (length item.key) (data_size item.content) short small

-- where there is a last row, its key is the cursor
last_is_some : (item : CopyItem) (rest : List CopyItem) (a b : Option (List ℕ)) → option_or (last_key (item ∷ rest)) a ≡ option_or (last_key (item ∷ rest)) b
last_is_some item [] a b = refl
last_is_some item (next ∷ rest) a b = last_is_some next rest a b

last_onto : (item : CopyItem) (taken : List CopyItem) (a : Option (List ℕ)) → option_or (last_key (item ∷ taken)) a ≡ option_or (last_key taken) (Some item.key)
last_onto item [] a = refl
last_onto item (next ∷ rest) a = last_is_some next rest a (Some item.key)

behind : (room bytes : ℕ) (a : Option (List ℕ)) (rows l : List CopyItem) → IsRising rows → rows_after a rows ≡ l →
    rows_after (option_or (last_key (cut room bytes l).taken) a) rows ≡ (cut room bytes l).left
behind room bytes a rows [] rising e = e
behind zero bytes a rows (item ∷ rest) rising e = e
behind (suc room) bytes a rows (item ∷ rest) rising e =
    by_test (behind room (bytes - size_of item) (Some item.key) rows rest rising (step_row a rows item rest rising e).1) (nat_le (size_of item) bytes)
  where
    c : Cut
    c = cut room (bytes - size_of item) rest

    chosen : Bool → Cut
    chosen b = cond b (with_taken item (cut room (bytes - size_of item) rest)) (nothing_taken (item ∷ rest))

    by_test : rows_after (option_or (last_key c.taken) (Some item.key)) rows ≡ c.left → (b : Bool) →
        rows_after (option_or (last_key (chosen b).taken) a) rows ≡ (chosen b).left
    by_test later true = ap (λ (k : Option (List ℕ)). rows_after k rows) (last_onto item c.taken a) ∙ later
    by_test later false = e

pub goes_on_behind : GoesOnBehind
goes_on_behind room bytes after rows rising = behind room bytes after rows (rows_after after rows) rising refl
