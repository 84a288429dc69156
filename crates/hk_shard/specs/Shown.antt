-- What a shard publishes in its cells.
use Rattle.std.specs.Prelude.{◌≡◌, ℕ, List, [], ◌∷◌, ◌++◌, map, Bool, ◌==◌, Option, Some, None, if◌then◌else◌}
use Rattle.std.specs.Ordering.{is_eq}
use Rattle.hk_copy.specs.Batches.{key_cmp}
use Rattle.hk_key.specs.declared.row.Row.{Row}
use Rattle.hk_node.specs.Rows.{Rows, find_row}
use Rattle.hk_node.specs.Node.{NodeState}
use Rattle.hk_journal.specs.declared.step_entry.JournalEntry.{JournalEntry}
use Rattle.hk_journal.specs.Journal.{ShownRow, published as shown_rows}
use Rattle.hk_snap.specs.declared.rule.Publication.{Publication}
use Rattle.hk_snap.specs.Snapshots.{cell_of, published}

-- a row that a step shows, as it is published: whole, with the step's ticket and the call that the step was for
abbrev pub publication : ShownRow → Publication
publication s = published s.key s.row s.ticket s.call

-- the key is one of the cell's
abbrev pub is_in : ℕ → List ℕ → Bool
is_in cell key = cell_of key == cell

-- what the steps of a journal publish in a cell: in their order, and of each step in key order, the rows of the cell that it changed
abbrev pub shown_in : ℕ → NodeState → List JournalEntry → List Publication
shown_in cell base journal = map publication (shown_rows (is_in cell) base journal)

-- the row of the key that was published last among these; or else the given one
abbrev pub last_row : List ℕ → List Publication → Option Row → Option Row
last_row key [] row = row
last_row key (p ∷ ps) row = last_row key ps (if is_eq (key_cmp key p.key) then Some p.row else row)

-- Of each key of the cell, what was published last is its row. A key that has no row was not published.
abbrev pub Covers : ℕ → List Publication → Rows → Type 0
Covers cell front rows = (key : List ℕ) → cell_of key ≡ cell → last_row key front None ≡ find_row key rows

-- All that was published in a cell: it ends with what the journal shows, and what stands before that shows the rows of the base.
pub record Shows (cell : ℕ) (seen : List Publication) (base : NodeState) (journal : List JournalEntry) : Type 0 where
  pub front : List Publication
  pub ends : seen ≡ front ++ shown_in cell base journal
  pub covers : Covers cell front base.rows
