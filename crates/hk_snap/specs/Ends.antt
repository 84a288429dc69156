-- What contracts see of a writer and of a reader: for each of the 32 cells what was seen of its list.
use Rattle.std.specs.Prelude.{◌≡◌, ℕ, ◌+◌, List, [], ◌∷◌, ◌++◌, map, Option, Some, None, slice_set, slice_index_or}
use mathlib.Core.List.{IsPrefix}
use Rattle.atomic_table.specs.Seated.{TableId}
use Rattle.atomic_table.specs.declared.shared.Seat.{Seat}
use Rattle.crossbeam_utils.specs.declared.atomic.seq_cell.Doing.{Doing}
use Rattle.crossbeam_utils.specs.Seq.{cell_view}
use Rattle.hk_snap.specs.declared.rule.Publication.{Publication}
use Rattle.hk_snap.specs.declared.rule.Knowledge.{Knowledge}
use Rattle.hk_snap.specs.declared.snapshot.Snapshot.{Snapshot}
use Rattle.hk_snap.specs.Snapshots.{cell_of, last_shown}
use Rattle.hk_snap.specs.Rule.{longer}

-- One end of a cell: which cell it is, what it has seen of the cell's list, and how often it has loaded, a meeting counted too. The
-- writer has seen all, and its loads are not counted.
pub record End : Type 0 where
  pub name : TableId
  pub seen : List Publication
  pub loads : ℕ

abbrev pub end_of : TableId → Knowledge → End
end_of name v = record { name = name; seen = v.seen; loads = v.loads }

abbrev pub writing_end : TableId → List Publication → End
writing_end name seen = record { name = name; seen = seen; loads = 0 }

-- what the pass of the last load has seen the cell show, if there was a load
abbrev pub shown_by : Option (Seat (List ℕ) (Doing (List ℕ) Knowledge)) → Option Snapshot
shown_by None = None
shown_by (Some pass) = last_shown (cell_view pass).seen

-- a reader's end of all cells, and what it loaded last
pub record Reader : Type 0 where
  pub ends : List End
  pub shown : Option Snapshot

abbrev pub no_name : TableId
no_name = record { words = 0; slots = 0; views_name = 0; atom = 0; block = 0; offset = 0; slot_names = [] }

abbrev pub at : List End → ℕ → End
at ends cell = slice_index_or ends cell (writing_end no_name [])

-- what was seen of a cell's list
abbrev pub seen_at : List End → ℕ → List Publication
seen_at ends cell = (at ends cell).seen

-- which cells they are
abbrev pub names : List End → List TableId
names ends = map (λ e. e.name) ends

abbrev pub with_seen : End → List Publication → End
with_seen e seen = record { name = e.name; seen = seen; loads = e.loads }

-- one more is published, in the cell of its key
abbrev pub with_publication : List End → Publication → List End
with_publication ends p =
    slice_set ends (cell_of p.key) (writing_end (at ends (cell_of p.key)).name (seen_at ends (cell_of p.key) ++ p ∷ []))

-- a reader after a load, or a meeting, in which the cell had this list
abbrev pub looked : Reader → ℕ → List Publication → Reader
looked r cell seen = record {
  ends = slice_set r.ends cell (record { name = (at r.ends cell).name; seen = seen; loads = (at r.ends cell).loads + 1 });
  shown = last_shown seen;
}

-- a reader after a meeting that shows nothing
abbrev pub noted : Reader → ℕ → List Publication → Reader
noted r cell seen = record { ends = (looked r cell seen).ends; shown = r.shown }

-- One load of a cell. The list that is seen begins with all that was seen of it, and its last is what is shown. Nothing is seen of
-- other cells.
abbrev pub Loads : Reader → ℕ → Reader → Type 0
Loads old cell new = (seen : List Publication) × IsPrefix (seen_at old.ends cell) seen × (new ≡ looked old cell seen)

-- an end that has seen as much, with no loads
abbrev pub another : End → End
another e = writing_end e.name e.seen

-- two ends of one cell: of two lists, one of which begins the other, the longer stays
abbrev pub joined_end : End → End → End
joined_end e f = with_seen e (longer e.seen f.seen)

abbrev pub joined_ends : List End → List End → List End
joined_ends [] others = []
joined_ends (e ∷ ends) [] = e ∷ ends
joined_ends (e ∷ ends) (f ∷ others) = joined_end e f ∷ joined_ends ends others
