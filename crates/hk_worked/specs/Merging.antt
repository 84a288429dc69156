-- The journals and the note as one list.
use Rattle.std.specs.Prelude.{List, [], ◌∷◌, Some}
use Rattle.hk_node.specs.declared.event.NodeEvent.TheVariants.{Call}
use Rattle.hk_base.specs.declared.stamp.Kind.TheVariants as Kind
use Rattle.hk_base.specs.declared.stamp.Stamp.{Stamp}
use Rattle.hk_base.specs.declared.letter.Body.TheVariants.{Inv}
use Rattle.hk_base.specs.declared.call.Answer.TheVariants.{Found}
use Rattle.hk_journal.specs.declared.step_entry.JournalEntry.{JournalEntry}
use Rattle.hk_merge.specs.Merged.{JournalList, Item, Step, LocalRead, AreMerged}
use Rattle.hk_worked.specs.Journals.{first_node, second_node, key, content, tag, write, second_call, sent, writes, acknowledges, completes, validates, journals, noted, note}

-- the entries of both nodes by their tickets, and then the read
abbrev pub items : List Item
items = Step first_node writes ∷ Step second_node acknowledges ∷ Step first_node completes ∷ Step second_node validates ∷ LocalRead 0 note ∷ []

-- ---- an entry of the key that comes between
-- the second node is asked to write the key next
abbrev pub rewrites : JournalEntry
rewrites = record {
  ticket = 6;
  event = Call second_call key write;
  letters = sent second_node first_node (Inv key (record { version = 4; node = 1 }) Kind.Write (Some content)) ∷ [];
  replies = [];
}

abbrev pub rewritten : JournalList
rewritten = (writes ∷ completes ∷ []) ∷ (acknowledges ∷ validates ∷ rewrites ∷ []) ∷ []

-- The reader drew its own ticket behind that entry's, and what it read is what stood there before it.
abbrev pub before_rewrites : List Item
before_rewrites = Step first_node writes ∷ Step second_node acknowledges ∷ Step first_node completes ∷ Step second_node validates ∷
    LocalRead 0 (noted 7 (Found content tag)) ∷ Step second_node rewrites ∷ []

pub record WorkedMerge : Type 0 where
  pub behind : AreMerged journals (note ∷ []) items
  pub before : AreMerged rewritten (noted 7 (Found content tag) ∷ []) before_rewrites
