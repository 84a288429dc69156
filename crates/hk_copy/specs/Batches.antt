-- Rows in the order of their keys, and the batches in which they are copied.
use Rattle.std.specs.Prelude.{◌≡◌, ℕ, zero, suc, ◌+◌, ◌-◌, ⊤, List, [], ◌∷◌, length, Bool, true, false, Option, Some, None, if◌then◌else◌, nat_le}
use Rattle.std.specs.Ordering.{nat_cmp, is_lt, is_eq}
use Rattle.std.specs.declared.cmp.Ordering.{Ordering}
use Rattle.std.specs.declared.cmp.Ordering.TheVariants.{Less}
use Rattle.std.specs.Cmp.Lexicographic.{slice_cmp}
use Rattle.std.specs.List.{AllByRecursion, filter, find}
use Rattle.hk_base.specs.declared.call.Content.{Content}
use Rattle.hk_base.specs.declared.letter.CopyItem.{CopyItem}

-- keys are ordered as their bytes, from the first on
abbrev pub key_cmp : List ℕ → List ℕ → Ordering
key_cmp = slice_cmp nat_cmp

-- each row's key is below those of the rows behind it
abbrev pub IsRising : List CopyItem → Type 0
IsRising [] = ⊤
IsRising (item ∷ rest) = AllByRecursion (λ later. key_cmp item.key later.key ≡ Less) rest × IsRising rest

-- whether a row is behind a key; all are behind the start
abbrev pub is_after : Option (List ℕ) → CopyItem → Bool
is_after None item = true
is_after (Some key) item = is_lt (key_cmp key item.key)

abbrev pub rows_after : Option (List ℕ) → List CopyItem → List CopyItem
rows_after key rows = filter (is_after key) rows

abbrev pub row_at : List ℕ → List CopyItem → Option CopyItem
row_at key rows = find (λ item. is_eq (key_cmp key item.key)) rows

-- the key of the last row
abbrev pub last_key : List CopyItem → Option (List ℕ)
last_key [] = None
last_key (item ∷ []) = Some item.key
last_key (item ∷ next ∷ rest) = last_key (next ∷ rest)

abbrev pub next_key : List CopyItem → Option (List ℕ)
next_key [] = None
next_key (item ∷ rest) = Some item.key

abbrev pub is_nil : List CopyItem → Bool
is_nil [] = true
is_nil (item ∷ rest) = false

abbrev pub data_size : Option Content → ℕ
data_size None = 0
data_size (Some content) = length content.bytes

-- the bytes of its key and data
abbrev pub size_of : CopyItem → ℕ
size_of item = length item.key + data_size item.content

-- rows that are taken, and those that are left
pub record Cut : Type 0 where
  pub taken : List CopyItem
  pub left : List CopyItem

abbrev pub with_taken : CopyItem → Cut → Cut
with_taken item c = record { taken = item ∷ c.taken; left = c.left }

abbrev pub nothing_taken : List CopyItem → Cut
nothing_taken rows = record { taken = []; left = rows }

-- The first rows, as many as there is room for, as fit into so many bytes, or as there are.
abbrev pub cut : ℕ → ℕ → List CopyItem → Cut
cut room bytes [] = nothing_taken []
cut zero bytes (item ∷ rest) = nothing_taken (item ∷ rest)
cut (suc room) bytes (item ∷ rest) =
    if nat_le (size_of item) bytes then with_taken item (cut room (bytes - size_of item) rest)
    else nothing_taken (item ∷ rest)
