-- What a note's own Read shows where it stands, and what is kept of the note.
use Rattle.std.specs.Prelude.{◌≡◌, ◌⊎◌, ◌<◌, ℕ, List, [], ◌∷◌, ◌++◌, Some, Ok, slice_get}
use Rattle.hk_base.specs.declared.stamp.NodeId.{NodeId}
use Rattle.hk_base.specs.declared.call.Answer.{Answer}
use Rattle.hk_node.specs.Node.{NodeState}
use Rattle.hk_journal.specs.declared.step_entry.JournalEntry.{JournalEntry}
use Rattle.hk_event.specs.declared.event.Header.{Header}
use Rattle.hk_event.specs.declared.event.Event.{Event}
use Rattle.hk_world.specs.World.{WorldState, process_at}
use Rattle.hk_world.specs.Start.{start}
use Rattle.hk_world.specs.Steps.{Accepted, world_step}
use Rattle.hk_merge.specs.declared.note.Note.{Note}
use Rattle.hk_merge.specs.Reads.{read_answer}
use Rattle.hk_merge.specs.Aside.{alive}
use Rattle.hk_merge.specs.Merged.{JournalList, Item, Step, LocalRead, Rises, journal_of, IsFounded, AreMerged, answers_of, Goes}

-- What is kept of a note: what a Read of its key is answered directly behind its snapshot's entry, in the run of the items so far.
pub record IsKeptAt (header : Header) (items : List Item) (note : Note) (answer : Answer) : Type 0 where
  pub front : List Item
  pub entry : JournalEntry
  pub back : List Item
  pub split : items ≡ (front ++ (Step note.node entry ∷ [])) ++ back
  pub snapshot : entry.ticket ≡ note.ticket
  pub events : List Event
  pub world : WorldState
  pub goes : Goes (start header) [] (front ++ (Step note.node entry ∷ [])) events world
  pub node : NodeState
  pub runs : process_at note.node world.processes ≡ Some (alive node)
  pub is : answer ≡ read_answer node note.key

-- the Read of the note that is listed there was answered this
abbrev pub ReadShows : WorldState → List Item → List Event → ℕ → Answer → Type 0
ReadShows world (LocalRead i note ∷ items) (event ∷ events) listed answer =
    (a : Accepted) × (world_step world event ≡ Ok a) × (((i ≡ listed) × (answers_of a.shown.replies ≡ answer ∷ [])) ⊎ ReadShows a.world items events listed answer)
ReadShows world (Step node entry ∷ items) (event ∷ events) listed answer = (a : Accepted) × (world_step world event ≡ Ok a) × ReadShows a.world items events listed answer
ReadShows world items events listed answer = ⊥

-- Where every entry goes, the Read of a founded note is answered at its place as directly behind its snapshot's entry: that is what is kept.
abbrev pub KeptIsShown : Type 0
KeptIsShown = (header : Header) (journals : JournalList) (notes : List Note) (items : List Item) (events : List Event) (last : WorldState) (listed : ℕ) (note : Note) →
    ((n : NodeId) → Rises (journal_of journals n)) → AreMerged journals notes items → Goes (start header) [] items events last →
    slice_get notes listed ≡ Some note → IsFounded journals note → header.managers ≡ 0 → note.node.0 < header.nodes →
    (answer : Answer) × IsKeptAt header items note answer × ReadShows (start header) items events listed answer
