-- The rows of a node by key, in the order of the keys.
use Rattle.std.specs.Prelude.{List, ℕ, Bool, Option, unwrap_or, nat_lt, if◌then◌else◌}
use Rattle.std.specs.BTreeMap.{insert_entry, is_at}
use Rattle.std.specs.Map.{lookup}
use Rattle.hk_base.specs.Stamp.{tag_of}
use Rattle.hk_copy.specs.Batches.{key_cmp}
use Rattle.hk_key.specs.declared.row.Row.{Row}
use Rattle.hk_key.specs.Table.{first_row}

abbrev pub Rows : Type 0
Rows = List (List ℕ × Row)

abbrev pub find_row : List ℕ → Rows → Option Row
find_row key rows = lookup (is_at (key_cmp key)) rows

-- a key without a row counts as Valid, `0.0`, with no content
abbrev pub row_at : List ℕ → Rows → Row
row_at key rows = unwrap_or (find_row key rows) first_row

abbrev pub put_row : List ℕ → Row → Rows → Rows
put_row key row rows = insert_entry key_cmp rows key row

-- some update has touched the row: its stamp is above `0.0`
abbrev pub is_touched : Row → Bool
is_touched row = nat_lt 0 (tag_of row.stamp)

-- with this row at the key, if an update has touched it
abbrev pub with_row : List ℕ → Row → Rows → Rows
with_row key row rows = if is_touched row then put_row key row rows else rows
