-- What batches promise together.
use Rattle.std.specs.Prelude.{◌≡◌, ℕ, suc, List, ◌∷◌, ◌++◌, Option, IfSome}
use Rattle.std.specs.Option.{option_or}
use Rattle.hk_base.specs.Key.{IsKey, IsData}
use Rattle.hk_base.specs.declared.letter.CopyItem.{CopyItem}
use Rattle.hk_copy.specs.Batches.{IsRising, cut, last_key, rows_after}
use Rattle.hk_copy.specs.declared.given.TheConstants.{MAX_BATCH_BYTES}

-- a row that can be: its key is one, and its content's bytes are data
pub record IsRow (item : CopyItem) : Type 0 where
  pub key : IsKey item.key
  pub content : IfSome item.content (λ content. IsData content.bytes)

-- what is taken and what is left are the rows
abbrev pub IsWhole : Type 0
IsWhole = (room bytes : ℕ) (rows : List CopyItem) → (cut room bytes rows).taken ++ (cut room bytes rows).left ≡ rows

-- The first row fits into the bytes of one batch, so it is taken.
abbrev pub TakesFirst : Type 0
TakesFirst = (room : ℕ) (item : CopyItem) (rest : List CopyItem) → IsRow item →
    (more : List CopyItem) × ((cut (suc room) MAX_BATCH_BYTES (item ∷ rest)).taken ≡ item ∷ more)

-- What is left is what is behind the last row that is taken, or behind the same key where none is.
abbrev pub GoesOnBehind : Type 0
GoesOnBehind = (room bytes : ℕ) (after : Option (List ℕ)) (rows : List CopyItem) → IsRising rows →
    rows_after (option_or (last_key (cut room bytes (rows_after after rows)).taken) after) rows ≡ (cut room bytes (rows_after after rows)).left
