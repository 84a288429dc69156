-- How rows that are copied are put in their places: the rows that a batch changes are made first, by key, and then put.
use Rattle.std.specs.Prelude.{◌≡◌, ℕ, List, [], ◌∷◌, true, false, Option, Some, None, unwrap_or, if◌then◌else◌}
use Rattle.std.specs.List.Sorted.{IsStrictlySortedBy}
use Rattle.std.specs.Map.{keys_of}
use Rattle.hk_base.specs.Range.{IsWithin}
use Rattle.hk_copy.specs.Batches.{key_cmp}
use Rattle.hk_node.specs.Copies.{merged}
use Rattle.std.specs.Option.{option_or}
use Rattle.hk_base.specs.declared.letter.CopyItem.{CopyItem}
use Rattle.hk_base.specs.declared.call.State.TheVariants.{Invalid}
use Rattle.hk_key.specs.declared.row.Row.{Row}
use Rattle.hk_key.specs.Table.{first_row, on_copy}
use Rattle.hk_key.specs.Same.{is_same_row}
use Rattle.hk_node.specs.declared.report.PriorRow.{PriorRow}
use Rattle.hk_node.specs.Rows.{Rows, find_row, row_at, put_row, is_touched}

-- what the item makes of the row, where it changes it
abbrev pub change_of : Row → CopyItem → Option Row
change_of row item = if is_same_row row (on_copy row item) then None else Some (on_copy row item)

-- with the change, if there is one
abbrev pub put_change : Option Row → List ℕ → Rows → Rows
put_change None key changes = changes
put_change (Some row) key changes = put_row key row changes

-- the row of a key that was changed, or else the one that was there
abbrev pub row_now : List ℕ → Rows → Rows → Row
row_now key changes rows = unwrap_or (option_or (find_row key changes) (find_row key rows)) first_row

-- the rows with these put in their places
abbrev pub put_rows : Rows → Rows → Rows
put_rows [] rows = rows
put_rows (c ∷ changes) rows = put_rows changes (put_row c.0 c.1 rows)

-- what they take the place of
abbrev pub prior_of : Rows → Rows → List PriorRow
prior_of [] rows = []
prior_of (c ∷ changes) rows = record { key = c.0; row = find_row c.0 rows } ∷ prior_of changes (put_row c.0 c.1 rows)

-- A row that may take a copied one: no update is pending, and one that is Invalid was touched.
pub record IsQuiet (row : Row) : Type 0 where
  pub pending : row.pending ≡ None
  pub within : IsWithin row.stamp
  pub touched : row.state ≡ Invalid → is_touched row ≡ true

-- The rows that a batch changes, by rising keys: with them put in their places, the batch is merged. Each differs from the row that was there.
pub record IsMerge (items : List CopyItem) (rows changes : Rows) : Type 0 where
  pub rising : IsStrictlySortedBy key_cmp (keys_of changes)
  pub same : put_rows changes rows ≡ merged items rows
  pub differ : (key : List ℕ) (row : Row) → find_row key changes ≡ Some row → is_same_row (row_at key rows) row ≡ false
