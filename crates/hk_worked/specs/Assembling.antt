-- The run of the journals and the note, and journals and notes that come to none.
use Rattle.std.specs.Prelude.{List, [], ◌∷◌, Some, None, Ok, Err}
use Rattle.hk_base.specs.declared.call.Answer.TheVariants.{Found, Missing}
use Rattle.hk_base.specs.declared.call.Op.TheVariants.{Read}
use Rattle.hk_journal.specs.declared.step_entry.JournalEntry.{JournalEntry}
use Rattle.hk_event.specs.declared.event.Header.{Header}
use Rattle.hk_event.specs.declared.event.Event.{Event}
use Rattle.hk_event.specs.declared.event.Event.TheVariants.{Call, Take}
use Rattle.hk_merge.specs.Merged.{JournalList}
use Rattle.hk_safety.specs.Run.{RunState}
use Rattle.hk_assemble.specs.declared.gap.Gap.TheVariants as Gap
use Rattle.hk_assemble.specs.Assembled.{IsAssembled}
use Rattle.hk_worked.specs.Journals.{first_node, second_node, key, content, tag, write, second_call, writes, acknowledges, completes, validates, journals, noted, note}

-- two nodes whose leases end at the limit of clocks
abbrev pub header : Header
header = record { nodes = 2; managers = 0; lease = 1000000000000; skew = 0 }

-- Letters are numbered as they are sent: INV, ACK and VAL.
abbrev pub events : List Event
events = Call first_node key write ∷ Take 1 ∷ Take 2 ∷ Take 3 ∷ Call second_node key Read ∷ []

abbrev pub run : RunState
run = record { header = header; events = events }

-- ---- journals and notes of no run
-- the second node acknowledges an update that nobody began
abbrev pub unsent : JournalList
unsent = [] ∷ (acknowledges ∷ []) ∷ []

-- or one that was begun at a later ticket
abbrev pub begun_late : JournalList
begun_late = (record writes { ticket = 3 } ∷ []) ∷ (acknowledges ∷ []) ∷ []

pub record WorkedRun : Type 0 where
  pub comes : IsAssembled (Ok run) header journals (note ∷ [])
  pub no_letter : IsAssembled (Err (Gap.Letter 2 None)) header unsent []
  pub late_letter : IsAssembled (Err (Gap.Letter 2 (Some 3))) header begun_late []
  pub other_answer : IsAssembled (Err (Gap.Note second_call 4 Missing (Some (Found content tag)))) header journals (noted 5 Missing ∷ [])
