-- What holds of every journal.
use Rattle.std.specs.Prelude.{◌≡◌, ◌++◌, ℕ, List, ◌∷◌, [], map, Bool, false}
use Rattle.std.specs.Ordering.{is_eq}
use Rattle.std.specs.List.{list_any}
use Rattle.hk_copy.specs.Batches.{key_cmp}
use Rattle.hk_node.specs.declared.event.NodeEvent.{NodeEvent}
use Rattle.hk_node.specs.declared.out.NodeOut.{NodeOut}
use Rattle.hk_node.specs.Rows.{Rows, find_row}
use Rattle.hk_node.specs.Report.{changed_rows}
use Rattle.hk_node.specs.Node.{NodeState}
use Rattle.hk_node.specs.Outs.{IsOutOf}
use Rattle.hk_node.specs.Steps.{node_step}
use Rattle.hk_node.specs.Sound.{IsNode, IsNodeEvent}
use Rattle.hk_journal.specs.declared.step_entry.JournalEntry.{JournalEntry}
use Rattle.hk_journal.specs.Journal.{entry_of, replay, IsBefore, IsReplay, changed, published}

abbrev pub ReplaysAreJoined : Type 0
ReplaysAreJoined = (base : NodeState) (front back : List JournalEntry) → replay base (front ++ back) ≡ replay (replay base front) back

abbrev pub ReplaysStayReplays : Type 0
ReplaysStayReplays = (base : NodeState) (front back : List JournalEntry) → IsReplay base front → IsReplay (replay base front) back → IsBefore front back →
    IsReplay base (front ++ back)

abbrev pub ShownIsJoined : Type 0
ShownIsJoined = (chosen : List ℕ → Bool) (base : NodeState) (front back : List JournalEntry) →
    published chosen base (front ++ back) ≡ published chosen base front ++ published chosen (replay base front) back

-- the entry of what a step told is a replay of it
abbrev pub EntriesGive : Type 0
EntriesGive = (node : NodeState) (ticket : ℕ) (event : NodeEvent) (out : NodeOut) → IsOutOf out node (node_step node event) →
    IsReplay node (entry_of ticket event out ∷ [])

-- the keys are those that the report names
abbrev pub ChangedAreReported : Type 0
ChangedAreReported = (old new : Rows) → map (λ r. r.0) (changed old new) ≡ map (λ f. f.key) (changed_rows old new)

-- what any other key has, the step leaves
abbrev pub ChangedAreAll : Type 0
ChangedAreAll = (node : NodeState) (event : NodeEvent) (key : List ℕ) → IsNode node → IsNodeEvent event →
    list_any (λ f. is_eq (key_cmp key f.key)) (changed_rows node.rows (node_step node event).node.rows) ≡ false →
    find_row key (node_step node event).node.rows ≡ find_row key node.rows
