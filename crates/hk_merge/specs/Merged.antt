-- The merged run: the entries of all journals and the notes, in the order of their places.
use Rattle.std.specs.Prelude.{◌≡◌, ◌≢◌, ◌⊎◌, ⊤, ℕ, ◌<◌, List, [], ◌∷◌, ◌++◌, map, max, Bool, false, Option, Some, None, slice_get, nat_lt, nat_le, ◌&&◌, if◌then◌else◌, Ok}
use Rattle.std.specs.declared.cmp.Ordering.{Ordering}
use Rattle.std.specs.declared.cmp.Ordering.TheVariants.{Less}
use Rattle.std.specs.Ordering.{nat_cmp, is_eq}
use Rattle.std.specs.Cmp.Lexicographic.{slice_cmp}
use Rattle.std.specs.Option.{IsSomeAnd}
use Rattle.std.specs.List.{AllByRecursion, find}
use Rattle.std.specs.List.Sorted.{IsStrictlySortedBy}
use Rattle.hk_base.specs.declared.stamp.NodeId.{NodeId}
use Rattle.hk_base.specs.declared.call.Answer.{Answer}
use Rattle.hk_base.specs.declared.call.Reply.{Reply}
use Rattle.hk_base.specs.declared.call.Op.TheVariants.{Read}
use Rattle.hk_base.specs.declared.letter.Actor.TheVariants.{Node}
use Rattle.hk_base.specs.declared.letter.Letter.{Letter}
use Rattle.hk_copy.specs.Batches.{key_cmp}
use Rattle.hk_node.specs.declared.event.NodeEvent.{NodeEvent}
use Rattle.hk_node.specs.declared.event.NodeEvent.TheVariants as NodeEvent
use Rattle.hk_node.specs.Node.{NodeState}
use Rattle.hk_node.specs.Laws.{key_of}
use Rattle.hk_journal.specs.declared.step_entry.JournalEntry.{JournalEntry}
use Rattle.hk_event.specs.declared.event.Event.{Event}
use Rattle.hk_event.specs.declared.event.Event.TheVariants.{Call, Take, Resend, Replay}
use Rattle.hk_world.specs.declared.shown.Shown.{Shown}
use Rattle.hk_world.specs.World.{WorldState, process_at, numbered}
use Rattle.hk_world.specs.Steps.{Accepted, world_step}
use Rattle.hk_merge.specs.declared.note.Note.{Note}
use Rattle.hk_merge.specs.Reads.{IsServing, read_answer}
use Rattle.hk_merge.specs.Aside.{alive}

-- one journal for each node, by number from 0
abbrev pub JournalList : Type 0
JournalList = List (List JournalEntry)

-- an entry of a node, or a note with its place in the list of notes
pub data Item : Type 0 where
  Step : (node : NodeId) (entry : JournalEntry) → Item
  LocalRead : (listed : ℕ) (note : Note) → Item

-- ---- places
abbrev pub is_named : Option (List ℕ) → List ℕ → Bool
is_named None key = false
is_named (Some k) key = is_eq (key_cmp key k)

-- the entry is of the key and stands behind that ticket
abbrev pub is_next : List ℕ → ℕ → JournalEntry → Bool
is_next key ticket entry = nat_lt ticket entry.ticket && is_named (key_of entry.event) key

-- the next entry of the key behind a ticket: tickets of a journal rise, so it is the first
abbrev pub next_entry : List ℕ → ℕ → List JournalEntry → Option JournalEntry
next_entry key ticket journal = find (is_next key ticket) journal

abbrev pub journal_or : Option (List JournalEntry) → List JournalEntry
journal_or None = []
journal_or (Some journal) = journal

abbrev pub journal_of : JournalList → NodeId → List JournalEntry
journal_of journals node = journal_or (slice_get journals node.0)

-- Places are compared as lists of numbers. An entry stands by its ticket, then by its node.
abbrev pub entry_place : NodeId → JournalEntry → List ℕ
entry_place node entry = entry.ticket ∷ 0 ∷ node.0 ∷ 1 ∷ 0 ∷ 0 ∷ []

-- Directly before the entry of that ticket at the note's node; there notes stand by their calls, and then as they are listed.
abbrev pub place_before : ℕ → ℕ → Note → List ℕ
place_before ticket listed note = ticket ∷ 0 ∷ note.node.0 ∷ 0 ∷ note.call.0 ∷ listed ∷ []

-- Behind all entries of that ticket; there notes stand by their nodes, their calls, and then as they are listed.
abbrev pub place_behind : ℕ → ℕ → Note → List ℕ
place_behind ticket listed note = ticket ∷ 1 ∷ note.node.0 ∷ 0 ∷ note.call.0 ∷ listed ∷ []

-- A note stands behind the greater of its own ticket and its snapshot's. Where the next entry of its key at its node does not come later
-- than that, it stands directly before that entry.
abbrev pub note_place_at : Option JournalEntry → ℕ → ℕ → Note → List ℕ
note_place_at None late listed note = place_behind late listed note
note_place_at (Some next) late listed note = if nat_le next.ticket late then place_before next.ticket listed note else place_behind late listed note

abbrev pub note_place : List JournalEntry → ℕ → Note → List ℕ
note_place journal listed note = note_place_at (next_entry note.key note.ticket journal) (max note.own note.ticket) listed note

abbrev pub place_of : JournalList → Item → List ℕ
place_of journals (Step node entry) = entry_place node entry
place_of journals (LocalRead listed note) = note_place (journal_of journals note.node) listed note

abbrev pub place_cmp : List ℕ → List ℕ → Ordering
place_cmp = slice_cmp nat_cmp

-- ---- the merged list
abbrev pub In : {X : Type 0} → List X → X → Type 0
In [] x = ⊥
In (y ∷ ys) x = (x ≡ y) ⊎ In ys x

-- the tickets of a journal rise
abbrev pub Rises : List JournalEntry → Type 0
Rises [] = ⊤
Rises (entry ∷ entries) = AllByRecursion (λ (e : JournalEntry). entry.ticket < e.ticket) entries × Rises entries

-- the node of the note has an entry with the snapshot's ticket
abbrev pub IsFounded : JournalList → Note → Type 0
IsFounded journals note = (entry : JournalEntry) × In (journal_of journals note.node) entry × (entry.ticket ≡ note.ticket)

-- an entry of a journal, or a note that is founded
abbrev pub IsItem : JournalList → List Note → Item → Type 0
IsItem journals notes (Step node entry) = In (journal_of journals node) entry
IsItem journals notes (LocalRead listed note) = (slice_get notes listed ≡ Some note) × IsFounded journals note

-- Merged: each entry and each founded note, and nothing else, in the order of their places.
pub record AreMerged (journals : JournalList) (notes : List Note) (items : List Item) : Type 0 where
  pub only : AllByRecursion (IsItem journals notes) items
  pub whole : (item : Item) → IsItem journals notes item → In items item
  pub ordered : IsStrictlySortedBy place_cmp (map (place_of journals) items)

-- ---- the run
-- The first letter that is equal to this one; the entry that sent it has a lower ticket than that. Beside the letters of the run stand the tickets of
-- the entries that sent them.
pub record IsFirst (letter : Letter) (ticket : ℕ) (letters : List Letter) (tickets : List ℕ) (number : ℕ) : Type 0 where
  pub there : numbered number letters ≡ Some letter
  pub first : (m : ℕ) → m < number → numbered m letters ≢ Some letter
  pub lower : IsSomeAnd (numbered number tickets) (λ (t : ℕ). t < ticket)

-- The event of a world that an entry of the node is. A Receive is the taking of the first equal letter.
abbrev pub IsEventOf : List Letter → List ℕ → NodeId → ℕ → NodeEvent → Event → Type 0
IsEventOf letters tickets node ticket (NodeEvent.Call call key op) event = event ≡ Call node key op
IsEventOf letters tickets node ticket (NodeEvent.Receive letter) event = (number : ℕ) × (event ≡ Take number) × IsFirst letter ticket letters tickets number × (letter.to ≡ Node node)
IsEventOf letters tickets node ticket (NodeEvent.Resend key) event = event ≡ Resend node key
IsEventOf letters tickets node ticket (NodeEvent.Replay key) event = event ≡ Replay node key
IsEventOf letters tickets node ticket other event = ⊥

abbrev pub answers_of : List Reply → List Answer
answers_of replies = map (λ (r : Reply). r.answer) replies

-- What an item is of its event and of what that showed. The numbers of the calls are aside: only the answers are compared. What a note was told is
-- looked at apart.
abbrev pub IsOf : Item → List Letter → List ℕ → Event → Shown → Type 0
IsOf (Step node entry) letters tickets event shown =
    IsEventOf letters tickets node entry.ticket entry.event event × (shown.letters ≡ entry.letters) × (answers_of shown.replies ≡ answers_of entry.replies)
IsOf (LocalRead listed note) letters tickets event shown = event ≡ Call note.node note.key Read

-- the tickets of the letters that were sent, after an item
abbrev pub tickets_after : List ℕ → Item → List ℕ
tickets_after tickets (Step node entry) = tickets ++ map (λ (l : Letter). entry.ticket) entry.letters
tickets_after tickets (LocalRead listed note) = tickets

abbrev pub tickets_of : List ℕ → List Item → List ℕ
tickets_of tickets [] = tickets
tickets_of tickets (item ∷ items) = tickets_of (tickets_after tickets item) items

-- The events are those of the items, each accepted where it stands.
abbrev pub Goes : WorldState → List ℕ → List Item → List Event → WorldState → Type 0
Goes world tickets [] [] last = last ≡ world
Goes world tickets (item ∷ items) (event ∷ events) last =
    (a : Accepted) × (world_step world event ≡ Ok a) × IsOf item world.letters tickets event a.shown × Goes a.world (tickets_after tickets item) items events last
Goes world tickets items events last = ⊥

-- ---- the laws
-- A note stands behind the entry of its snapshot and before each later entry of its key at its node.
pub record StandsBetween (journal : List JournalEntry) (listed : ℕ) (note : Note) : Type 0 where
  pub behind : (entry : JournalEntry) → entry.ticket ≡ note.ticket → place_cmp (entry_place note.node entry) (note_place journal listed note) ≡ Less
  pub before : (entry : JournalEntry) → In journal entry → note.ticket < entry.ticket → key_of entry.event ≡ Some note.key →
      place_cmp (note_place journal listed note) (entry_place note.node entry) ≡ Less

abbrev pub NotesStandBetween : Type 0
NotesStandBetween = (journal : List JournalEntry) (listed : ℕ) (note : Note) → Rises journal → StandsBetween journal listed note

-- A note's Read at its place is answered as one directly behind its snapshot's entry would be.
abbrev pub NotesAreKept : Type 0
NotesAreKept = (journals : JournalList) (notes : List Note) (front middle back : List Item) (entry : JournalEntry) (listed : ℕ) (note : Note) →
    ((n : NodeId) → Rises (journal_of journals n)) → AreMerged journals notes (front ++ (Step note.node entry ∷ (middle ++ (LocalRead listed note ∷ back)))) → entry.ticket ≡ note.ticket →
    (world last : WorldState) (tickets : List ℕ) (events : List Event) (node : NodeState) → Goes world tickets middle events last → process_at note.node world.processes ≡ Some (alive node) → IsServing node →
    (later : NodeState) × (process_at note.node last.processes ≡ Some (alive later)) × IsServing later × (read_answer later note.key ≡ read_answer node note.key)
