-- The merged list, made: each entry and each founded note is put in its place.
use Rattle.std.specs.Prelude.{◌≡◌, ℕ, ◌+◌, List, [], ◌∷◌, map, Bool, ◌==◌, if◌then◌else◌}
use Rattle.std.specs.BTreeMap.{insert_entry}
use Rattle.std.specs.List.{list_any}
use Rattle.std.specs.Map.{values_of}
use Rattle.hk_base.specs.declared.stamp.NodeId.{NodeId}
use Rattle.hk_journal.specs.declared.step_entry.JournalEntry.{JournalEntry}
use Rattle.hk_merge.specs.declared.note.Note.{Note}
use Rattle.hk_merge.specs.declared.slot.Slot.{Slot}
use Rattle.hk_merge.specs.declared.slot.Slot.TheVariants as slots
use Rattle.hk_merge.specs.Merged.{JournalList, Item, Step, LocalRead, Rises, journal_of, entry_place, note_place, place_cmp, AreMerged}

-- items, each with its place, in the order of the places
abbrev pub Places : Type 0
Places = List (List ℕ × Item)

abbrev pub put_item : Places → List ℕ → Item → Places
put_item places place item = insert_entry place_cmp places place item

abbrev pub put_entries : NodeId → Places → List JournalEntry → Places
put_entries node places [] = places
put_entries node places (entry ∷ entries) = put_entries node (put_item places (entry_place node entry) (Step node entry)) entries

-- the journals of the nodes from this number on
abbrev pub put_journals : ℕ → Places → JournalList → Places
put_journals n places [] = places
put_journals n places (journal ∷ journals) = put_journals (n + 1) (put_entries (record { 0 = n }) places journal) journals

-- an entry has the ticket
abbrev pub is_founded : List JournalEntry → ℕ → Bool
is_founded journal ticket = list_any (λ entry. entry.ticket == ticket) journal

-- with the note, if its node has an entry with its snapshot's ticket
abbrev pub with_note : JournalList → ℕ → Note → Places → Places
with_note journals listed note places =
    if is_founded (journal_of journals note.node) note.ticket
    then put_item places (note_place (journal_of journals note.node) listed note) (LocalRead listed note)
    else places

-- the notes from this number on
abbrev pub put_notes : JournalList → ℕ → Places → List Note → Places
put_notes journals n places [] = places
put_notes journals n places (note ∷ notes) = put_notes journals (n + 1) (with_note journals n note places) notes

abbrev pub merged : JournalList → List Note → List Item
merged journals notes = values_of (put_notes journals 0 (put_journals 0 [] journals) notes)

-- where the tickets of each journal rise, that is the merged list
abbrev pub MergedAreMerged : Type 0
MergedAreMerged = (journals : JournalList) (notes : List Note) → ((n : NodeId) → Rises (journal_of journals n)) → AreMerged journals notes (merged journals notes)

-- ---- what the code has of it
abbrev pub item_of : Slot → Item
item_of (slots.Step node entry) = Step node entry.now
item_of (slots.LocalRead listed note) = LocalRead listed note.now

abbrev pub placed : List (List ℕ × Slot) → Places
placed entries = map (λ e. (e.0, item_of e.1)) entries

abbrev pub items_in : List (List ℕ × Slot) → List Item
items_in entries = values_of (placed entries)
