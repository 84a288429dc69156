-- Journals of a node, their replay, and what is shown of the node's rows.
use Rattle.std.specs.Prelude.{◌≡◌, ◌<◌, ⊤, ℕ, List, [], ◌∷◌, ◌++◌, map, Bool, Option, Some, None}
use Rattle.std.specs.List.{filter}
use Rattle.hk_base.specs.declared.call.CallNo.{CallNo}
use Rattle.hk_key.specs.declared.row.Row.{Row}
use Rattle.hk_node.specs.declared.event.NodeEvent.{NodeEvent}
use Rattle.hk_node.specs.declared.event.NodeEvent.TheVariants.{Call}
use Rattle.hk_node.specs.declared.out.NodeOut.{NodeOut}
use Rattle.hk_node.specs.Rows.{Rows}
use Rattle.hk_node.specs.Report.{is_changed}
use Rattle.hk_node.specs.Node.{NodeState}
use Rattle.hk_node.specs.Stepped.{replies_of}
use Rattle.hk_node.specs.Steps.{node_step}
use Rattle.hk_journal.specs.declared.step_entry.JournalEntry.{JournalEntry}

abbrev pub entry_of : ℕ → NodeEvent → NodeOut → JournalEntry
entry_of ticket event out = record { ticket = ticket; event = event; letters = out.letters; replies = out.replies }

-- the node after the step of an entry
abbrev pub after : NodeState → JournalEntry → NodeState
after node entry = (node_step node entry.event).node

-- the node after all steps of a journal, from its base on
abbrev pub replay : NodeState → List JournalEntry → NodeState
replay base [] = base
replay base (entry ∷ journal) = replay (after base entry) journal

-- the letters and replies of the entry are what the step of its event gives
pub record IsStep (node : NodeState) (entry : JournalEntry) : Type 0 where
  pub letters : entry.letters ≡ (node_step node entry.event).letters
  pub replies : entry.replies ≡ replies_of (node_step node entry.event)

abbrev pub AreSteps : NodeState → List JournalEntry → Type 0
AreSteps base [] = ⊤
AreSteps base (entry ∷ journal) = IsStep base entry × AreSteps (after base entry) journal

-- an entry, if there is one, has a greater ticket
abbrev pub IsBelow : ℕ → List JournalEntry → Type 0
IsBelow ticket [] = ⊤
IsBelow ticket (entry ∷ journal) = ticket < entry.ticket

abbrev pub AreRising : List JournalEntry → Type 0
AreRising [] = ⊤
AreRising (entry ∷ journal) = IsBelow entry.ticket journal × AreRising journal

-- the ticket of the last entry is below those of the other journal
abbrev pub IsBefore : List JournalEntry → List JournalEntry → Type 0
IsBefore [] later = ⊤
IsBefore (entry ∷ []) later = IsBelow entry.ticket later
IsBefore (entry ∷ next ∷ journal) later = IsBefore (next ∷ journal) later

-- The journal tells what happened from this base on: its tickets rise, and each entry has what its step gave.
pub record IsReplay (base : NodeState) (journal : List JournalEntry) : Type 0 where
  pub rising : AreRising journal
  pub steps : AreSteps base journal

-- a row that is shown: as a step with this ticket left it, and the call that the step was for
pub record ShownRow : Type 0 where
  pub key : List ℕ
  pub row : Row
  pub ticket : ℕ
  pub call : Option CallNo

abbrev pub call_of : NodeEvent → Option CallNo
call_of (Call call key op) = Some call
call_of event = None

-- the rows that differ from what their keys had, in key order
abbrev pub changed : Rows → Rows → List (List ℕ × Row)
changed old new = filter (is_changed old) new

-- each row that the step of an entry changed, whole
abbrev pub shown_by : NodeState → JournalEntry → List ShownRow
shown_by node entry =
    map (λ r. record { key = r.0; row = r.1; ticket = entry.ticket; call = call_of entry.event }) (changed node.rows (after node entry).rows)

-- all rows with such keys that the steps of a journal changed, in their order: what is published in a cell, where these are its keys
abbrev pub published : (List ℕ → Bool) → NodeState → List JournalEntry → List ShownRow
published chosen base [] = []
published chosen base (entry ∷ journal) = filter (λ s. chosen s.key) (shown_by base entry) ++ published chosen (after base entry) journal
