-- What a step did to its node, by the node before and after it, and the node with the step undone.
use Rattle.std.specs.Prelude.{◌≡◌, ℕ, List, [], ◌∷◌, map, Bool, true, false, not, ◌&&◌, Option, Some, None, if◌then◌else◌}
use Rattle.std.specs.Option.{IsSome}
use Rattle.std.specs.Ordering.{is_eq}
use Rattle.std.specs.List.{list_any, flat_map, AllByRecursion}
use Rattle.std.specs.List.Sorted.{IsStrictlySortedBy}
use Rattle.std.specs.BTreeMap.{is_at}
use Rattle.std.specs.Map.{remove_entry}
use Rattle.hk_copy.specs.Batches.{key_cmp}
use Rattle.hk_key.specs.declared.row.Row.{Row}
use Rattle.hk_key.specs.Same.{is_same_row}
use Rattle.hk_node.specs.declared.report.PriorRow.{PriorRow}
use Rattle.hk_node.specs.declared.report.Report.{Report}
use Rattle.hk_node.specs.declared.report.Undo.{Undo}
use Rattle.hk_node.specs.declared.report.Undo.TheVariants.{Nothing, Clock, Lease, Granted, Activated, View, Cursor}
use Rattle.hk_node.specs.Rows.{Rows, find_row, row_at, put_row, is_touched}
use Rattle.hk_node.specs.Node.{NodeState, epoch_of}

-- Whether the row of this key differs from the one that it had. Contents need not be compared: no step takes another content
-- without another stamp, as the law on reports shows.
abbrev pub is_changed : Rows → List ℕ × Row → Bool
is_changed old r = not (is_same_row (row_at r.0 old) r.1)

abbrev pub prior_at : Rows → List ℕ → PriorRow
prior_at old key = record { key = key; row = find_row key old }

-- each key whose row differs, in their order, with the row that it had, if it had one; no step takes a row away
abbrev pub changed_rows : Rows → Rows → List PriorRow
changed_rows old new = flat_map (λ r. if is_changed old r then prior_at old r.0 ∷ [] else []) new

abbrev pub report : NodeState → NodeState → Report
report old new = record { epoch = epoch_of old; readied = not old.ready && new.ready; rows = changed_rows old.rows new.rows }

-- These are just the keys whose row changed, in their order, each with its prior row or none.
pub record AreChanged (prior : List PriorRow) (old new : Rows) : Type 0 where
  pub rising : IsStrictlySortedBy key_cmp (map (λ f. f.key) prior)
  pub differ : AllByRecursion (λ f. (find_row f.key old ≡ f.row) × (is_same_row (row_at f.key old) (row_at f.key new) ≡ false)) prior
  -- no row is taken away: each of them has one now
  pub there : AllByRecursion (λ f. IsSome (find_row f.key new)) prior
  pub others : (key : List ℕ) → list_any (λ f. is_eq (key_cmp key f.key)) prior ≡ false → find_row key new ≡ find_row key old

-- what a row that is put changes: where the same stands there, nothing
abbrev pub changed_by : List ℕ → Row → Rows → List PriorRow
changed_by key row rows = if is_same_row (row_at key rows) row then [] else prior_at rows key ∷ []

-- the same of a row that stands at the key
abbrev pub prior_of_row : List ℕ → Row → Row → List PriorRow
prior_of_row key old row = if is_same_row old row then [] else record { key = key; row = Some old } ∷ []

-- A step made this row of the one at the key: where the two are told to be the same they are, and one that differs is touched.
pub record IsMade (rows : Rows) (key : List ℕ) (row : Row) : Type 0 where
  pub same : is_same_row (row_at key rows) row ≡ true → row ≡ row_at key rows
  pub touched : is_same_row (row_at key rows) row ≡ false → is_touched row ≡ true

-- the report of a step that changes these rows, and neither the view nor whether the node is ready
abbrev pub rows_report : NodeState → List PriorRow → Report
rows_report node rows = record { epoch = epoch_of node; readied = false; rows = rows }

-- one row is given back: a key that had none loses it
abbrev pub row_rolled_back : List ℕ → Option Row → Rows → Rows
row_rolled_back key None rows = remove_entry (is_at (key_cmp key)) rows
row_rolled_back key (Some row) rows = put_row key row rows

abbrev pub rows_rolled_back : List PriorRow → Rows → Rows
rows_rolled_back [] rows = rows
rows_rolled_back (f ∷ prior) rows = row_rolled_back f.key f.row (rows_rolled_back prior rows)

-- what an event may replace beside rows
abbrev pub undo_rolled_back : Undo → NodeState → NodeState
undo_rolled_back Nothing node = node
undo_rolled_back (Clock now) node = record node { clock = now }
undo_rolled_back (Lease end) node = record node { granted = end }
undo_rolled_back (Granted end ends) node = record node { granted = end; ends = ends }
undo_rolled_back (Activated activated) node = record node { activated = activated }
undo_rolled_back (View view activated) node = record node { view = view; activated = activated }
-- the cursor, of a node that was not ready
undo_rolled_back (Cursor cursor) node = record node { ready = false; cursor = cursor }

-- the node with a step undone that changed these rows, and this beside them
abbrev pub rolled_back : List PriorRow → Undo → NodeState → NodeState
rolled_back prior undo node = undo_rolled_back undo (record node { rows = rows_rolled_back prior node.rows })
