-- A joint read that has a place is a read of one state of its shard: a consistent cut through the shard's keys.
use Rattle.std.specs.Prelude.{◌≡◌, ℕ, ◌<◌, ◌≤◌, List, ◌++◌, Option, Some, None, Ok}
use Rattle.std.specs.List.{AllByRecursion}
use mathlib.Core.List.{IsPrefix}
use Rattle.hk_key.specs.declared.row.Row.{Row}
use Rattle.hk_node.specs.Rows.{Rows, find_row}
use Rattle.hk_journal.specs.declared.step_entry.JournalEntry.{JournalEntry}
use Rattle.hk_journal.specs.Journal.{replay}
use Rattle.hk_snap.specs.declared.rule.Publication.{Publication}
use Rattle.hk_snap.specs.declared.snapshot.Snapshot.{Snapshot}
use Rattle.hk_snap.specs.Snapshots.{cell_of, published, snapshot_of, last_shown}
use Rattle.hk_snap.specs.Ends.{Reader, seen_at}
use Rattle.hk_joint_reads.specs.declared.read.Joint.TheVariants.{Found}
use Rattle.hk_joint_reads.specs.Reads.{IsJointRead}
use Rattle.hk_shard.specs.Shown.{shown_in}
use Rattle.hk_shard.specs.Shard.{ShardState, IsShard}
use Rattle.hk_place.specs.Past.{Past}
use Rattle.hk_place.specs.Place.{place_of}

abbrev pub past_of : ShardState → Past
past_of s = record { base = s.base; journal = s.journal }

-- what was published in the cell of the snapshot's key
abbrev pub list_of : ShardState → Snapshot → List Publication
list_of s shown = seen_at s.ends (cell_of shown.key)

-- A reader of the shard's cells was shown this once: of the list of its key's cell it had seen a beginning.
abbrev pub WasShown : ShardState → Snapshot → Type 0
WasShown s shown = (seen : List Publication) × IsPrefix seen (list_of s shown) × (last_shown seen ≡ Some shown)

-- A reader of the shard's cells: what it has seen of each of them is a beginning of what was published there.
abbrev pub IsReaderOf : ShardState → Reader → Type 0
IsReaderOf s reader = (cell : ℕ) → IsPrefix (seen_at reader.ends cell) (seen_at s.ends cell)

-- It was shown before the journal began: what the journal's steps published stands behind all that the reader had seen.
abbrev pub WasShownBefore : ShardState → Snapshot → Type 0
WasShownBefore s shown = (seen : List Publication) × (since : List Publication)
    × (list_of s shown ≡ seen ++ since ++ shown_in (cell_of shown.key) s.base s.journal) × (last_shown seen ≡ Some shown)

-- The key has a row among these, and the snapshot shows just that: its state, its stamp, and its content, or that this is large, or that there is none.
abbrev pub ShowsRow : Rows → Snapshot → Type 0
ShowsRow rows shown = (row : Row) × (find_row shown.key rows ≡ Some row) × (shown ≡ snapshot_of (published shown.key row shown.ticket None))

-- The journal's steps up to the moment led to a state in which the row of each of these keys is the one that its snapshot shows.
pub record IsCut (past : Past) (moment : ℕ) (found : List Snapshot) : Type 0 where
  pub front : List JournalEntry
  pub back : List JournalEntry
  pub whole : past.journal ≡ front ++ back
  pub upto : AllByRecursion (λ entry. entry.ticket ≤ moment) front
  pub behind : AllByRecursion (λ entry. moment < entry.ticket) back
  pub rows : AllByRecursion (ShowsRow (replay past.base front).rows) found

-- Whatever readers of a shard's cells were shown of some keys, each at any time: where these snapshots have a place, they are the rows of one state.
abbrev pub JointReadsAreCuts : Type 0
JointReadsAreCuts = (s : ShardState) (found : List Snapshot) (moment : ℕ) → IsShard s → AllByRecursion (WasShown s) found
    → place_of (past_of s) found ≡ Ok moment → IsCut (past_of s) moment found

-- What a joint read finds, its reader was shown.
abbrev pub FoundWereShown : Type 0
FoundWereShown = (s : ShardState) (old new : Reader) (keys : List (List ℕ)) (end skew : ℕ) (reading : Option ℕ) (found : List Snapshot) → IsReaderOf s new
    → IsJointRead old new keys end skew reading (Found found) → AllByRecursion (WasShown s) found

-- None of them was shown before the journal began: of a row that no step of the journal left, the journal can't tell how long it stood.
abbrev pub PlacedReadsAreSince : Type 0
PlacedReadsAreSince = (s : ShardState) (found : List Snapshot) (moment : ℕ) → IsShard s → place_of (past_of s) found ≡ Ok moment
    → AllByRecursion (λ shown. WasShownBefore s shown → ⊥) found
