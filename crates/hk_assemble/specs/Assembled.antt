-- What journals and notes come to: the run of the merged list, or the first entry or note that no run can have.
use Rattle.std.specs.Prelude.{◌≡◌, ◌≢◌, ◌⊎◌, ◌<◌, ◌≤◌, ⊤, ℕ, List, [], ◌∷◌, ◌++◌, Option, Some, None, Result, Ok, Err, slice_get}
use Rattle.hk_base.specs.declared.stamp.NodeId.{NodeId}
use Rattle.hk_base.specs.declared.call.Answer.{Answer}
use Rattle.hk_base.specs.declared.letter.Letter.{Letter}
use Rattle.hk_base.specs.declared.letter.Actor.TheVariants.{Node}
use Rattle.hk_node.specs.declared.event.NodeEvent.TheVariants.{Receive}
use Rattle.hk_journal.specs.declared.step_entry.JournalEntry.{JournalEntry}
use Rattle.hk_event.specs.declared.event.Header.{Header}
use Rattle.hk_event.specs.declared.event.Event.{Event}
use Rattle.hk_world.specs.World.{WorldState}
use Rattle.hk_world.specs.Start.{start}
use Rattle.hk_world.specs.Steps.{Accepted, world_step}
use Rattle.hk_merge.specs.declared.note.Note.{Note}
use Rattle.hk_merge.specs.Reads.{IsMerged}
use Rattle.hk_merge.specs.Merged.{JournalList, Item, Step, In, IsFounded, AreMerged, IsEventOf, answers_of, tickets_of, Goes}
use Rattle.hk_merge.specs.Shows.{IsKeptAt, ReadShows}
use Rattle.hk_safety.specs.Run.{RunState, world_of}
use Rattle.hk_assemble.specs.declared.gap.Gap.{Gap}
use Rattle.hk_assemble.specs.declared.gap.Gap.TheVariants as Gap

-- ---- letters that were sent
-- an entry of this ticket sent the letter
abbrev pub IsSent : List Item → Letter → ℕ → Type 0
IsSent items letter ticket = (node : NodeId) × (entry : JournalEntry) × In items (Step node entry) × In entry.letters letter × (ticket ≡ entry.ticket)

-- the least ticket at which the letter was sent, or none where it never was
abbrev pub IsLeastSent : List Item → Letter → Option ℕ → Type 0
IsLeastSent items letter None = (ticket : ℕ) → IsSent items letter ticket → ⊥
IsLeastSent items letter (Some least) = IsSent items letter least × ((ticket : ℕ) → IsSent items letter ticket → least ≤ ticket)

-- the entry takes the letter, and none equal to it was sent at a lower ticket
abbrev pub TakesUnsent : List Item → JournalEntry → Letter → Type 0
TakesUnsent items entry letter = (entry.event ≡ Receive letter) × ((ticket : ℕ) → IsSent items letter ticket → entry.ticket ≤ ticket)

-- ---- an entry that fails, where the run of the entries and notes before it has come to this world
abbrev pub FailsAt : List Item → WorldState → List ℕ → NodeId → JournalEntry → Gap → Type 0
FailsAt items world tickets node entry (Gap.Letter taken sent) = (letter : Letter) × TakesUnsent items entry letter × (taken ≡ entry.ticket) × IsLeastSent items letter sent
-- it is no event of such a run, or its letter is to another node
FailsAt items world tickets node entry (Gap.Entry at ticket None) =
    (at ≡ node) × (ticket ≡ entry.ticket) × ((letter : Letter) → TakesUnsent items entry letter → ⊥) ×
    ((IsMerged entry.event → ⊥) ⊎ ((letter : Letter) × (entry.event ≡ Receive letter) × (letter.to ≢ Node node)))
-- the step of the run shows other letters or other answers
FailsAt items world tickets node entry (Gap.Entry at ticket (Some given)) =
    (at ≡ node) × (ticket ≡ entry.ticket) × (event : Event) × IsEventOf world.letters tickets node entry.ticket entry.event event ×
    (a : Accepted) × (world_step world event ≡ Ok a) × ((a.shown.letters ≢ entry.letters) ⊎ (answers_of a.shown.replies ≢ answers_of entry.replies)) ×
    (given.letters ≡ a.shown.letters) × (given.replies ≡ a.shown.replies)
FailsAt items world tickets node entry gap = ⊥

-- it is the first that fails: what stands before it goes
pub record FailsFirst (header : Header) (items : List Item) (gap : Gap) : Type 0 where
  pub front : List Item
  pub node : NodeId
  pub entry : JournalEntry
  pub back : List Item
  pub split : items ≡ front ++ (Step node entry ∷ back)
  pub events : List Event
  pub world : WorldState
  pub goes : Goes (start header) [] front events world
  pub fails : FailsAt items world (tickets_of [] front) node entry gap

-- ---- notes
-- what a Read is answered directly behind the entry of the note's snapshot, or none where there is no such entry
abbrev pub IsKept : Header → JournalList → List Item → Note → Option Answer → Type 0
IsKept header journals items note None = IsFounded journals note → ⊥
IsKept header journals items note (Some answer) = IsKeptAt header items note answer

-- it is the first note, as they are listed, that was told something else
pub record FailsNote (header : Header) (journals : JournalList) (notes : List Note) (items : List Item) (listed : ℕ) (note : Note) (kept : Option Answer) : Type 0 where
  pub lists : slice_get notes listed ≡ Some note
  pub kept_is : IsKept header journals items note kept
  pub other : kept ≢ Some note.answer
  pub first : (i : ℕ) (earlier : Note) → i < listed → slice_get notes i ≡ Some earlier → IsKept header journals items earlier (Some earlier.answer)

-- ---- the cases
abbrev pub IsGap : Header → JournalList → List Note → List Item → Gap → Type 0
IsGap header journals notes items Gap.Memory = ⊤
-- all entries go
IsGap header journals notes items (Gap.Note call ticket told kept) =
    (events : List Event) × (last : WorldState) × Goes (start header) [] items events last ×
    (listed : ℕ) × (note : Note) × (call ≡ note.call) × (ticket ≡ note.ticket) × (told ≡ note.answer) × FailsNote header journals notes items listed note kept
IsGap header journals notes items (Gap.Letter taken sent) = FailsFirst header items (Gap.Letter taken sent)
IsGap header journals notes items (Gap.Entry node ticket given) = FailsFirst header items (Gap.Entry node ticket given)

-- The events of the run are those of the items, each entry's step shows what the entry has, the numbers of calls aside, and each note is a Read with its answer.
pub record IsRunOf (header : Header) (notes : List Note) (items : List Item) (run : RunState) : Type 0 where
  pub same : run.header ≡ header
  pub goes : Goes (start header) [] items run.events (world_of run)
  pub told : (listed : ℕ) (note : Note) → slice_get notes listed ≡ Some note → ReadShows (start header) items run.events listed note.answer

abbrev pub IsAssembled : Result RunState Gap → Header → JournalList → List Note → Type 0
IsAssembled (Ok run) header journals notes = (items : List Item) × AreMerged journals notes items × IsRunOf header notes items run
IsAssembled (Err gap) header journals notes = (items : List Item) × AreMerged journals notes items × IsGap header journals notes items gap
