-- What each step of a node does to the calls that wait at its rows, and to the node.
use Rattle.std.specs.Prelude.{◌≡◌, ◌≢◌, ◌⊎◌, ℕ, ◌+◌, ◌≤◌, ◌<◌, List, [], ◌∷◌, Option, Some, None, true, false}
use Rattle.std.specs.BTreeMap.{is_at}
use Rattle.std.specs.Map.{lookup}
use Rattle.hk_base.specs.declared.stamp.Stamp.{Stamp}
use Rattle.hk_base.specs.declared.stamp.NodeId.{NodeId}
use Rattle.hk_base.specs.declared.call.CallNo.{CallNo}
use Rattle.hk_base.specs.declared.call.Op.{Op}
use Rattle.hk_base.specs.declared.call.Op.TheVariants.{Read}
use Rattle.hk_base.specs.declared.call.Answer.{Answer}
use Rattle.hk_base.specs.declared.call.Answer.TheVariants.{Busy, Aborted, Exhausted}
use Rattle.hk_base.specs.declared.call.Why.TheVariants as Why
use Rattle.hk_base.specs.declared.call.Reply.{Reply}
use Rattle.hk_base.specs.declared.call.State.TheVariants.{Valid, Write}
use Rattle.hk_base.specs.Register.{act}
use Rattle.hk_base.specs.Stamp.{tag_of}
use Rattle.hk_copy.specs.Batches.{key_cmp}
use Rattle.hk_key.specs.declared.row.Row.{Row}
use Rattle.hk_node.specs.declared.event.NodeEvent.{NodeEvent}
use Rattle.hk_node.specs.declared.event.NodeEvent.TheVariants.{Call}
use Rattle.hk_node.specs.Rows.{find_row, row_at}
use Rattle.hk_node.specs.Node.{NodeState}
use Rattle.hk_node.specs.Stepped.{Stepped}
use Rattle.hk_node.specs.Calls.{kind_of, next_stamp, register_in, answers, lease_end}
use Rattle.hk_node.specs.Steps.{node_step}
use Rattle.hk_node.specs.Sound.{IsNode, IsNodeEvent}
use Rattle.hk_node.specs.Laws.{key_of, IsNoCall}
use Rattle.hk_told.specs.Moves.{Moves, WaitsFor}

-- what a step tells at the key
abbrev pub told_at : List ℕ → List (List ℕ × Reply) → Option Reply
told_at key told = lookup (is_at (key_cmp key)) told

-- a step that is no call moves each row as the law of rows says, with what it tells at the row's key
abbrev pub StepMoves : Type 0
StepMoves = (node : NodeState) (event : NodeEvent) (key : List ℕ) → IsNode node → IsNodeEvent event → IsNoCall event →
    Moves (row_at key node.rows) (row_at key (node_step node event).node.rows) (told_at key (node_step node event).told)

-- What is told at once of a row, by a lease that ends at `end` where the clock is `now` and another clock may be ahead by `skew`. The lease may be over on
-- another clock; or it runs and the row is not Valid; or the operation would change the register, and no stamp is left for that; or it leaves the register,
-- and answers this.
abbrev pub AtOnce : ℕ → ℕ → ℕ → Row → Op → Answer → Type 0
AtOnce end now skew row op (Busy (Why.Lease e n)) = (e ≡ end) × (n ≡ now) × (end < now + skew)
AtOnce end now skew row op (Busy (Why.Row state stamp)) = (now + skew ≤ end) × (row.state ≡ state) × (row.stamp ≡ stamp) × (state ≢ Valid)
AtOnce end now skew row op (Exhausted stamp) = (now + skew ≤ end) × (row.state ≡ Valid) × (row.stamp ≡ stamp)
    × ((act op (register_in row) 0).changed ≡ true) × ((id : NodeId) × (next_stamp (kind_of op) stamp id ≡ None))
AtOnce end now skew row op (Aborted stamp) = ⊥
AtOnce end now skew row op answer = (now + skew ≤ end) × (row.state ≡ Valid) × ((act op (register_in row) 0).changed ≡ false) × ((act op (register_in row) 0).answer ≡ answer)

-- A call begins an update: its row was Valid, and has a stamp of a later version and what the operation leaves. The update waits in Write with nothing told, or is complete
-- at once and told.
pub record Starts (node : NodeState) (call : CallNo) (key : List ℕ) (op : Op) (stepped : Stepped) : Type 0 where
  pub stamp : Stamp
  pub answer : Answer
  pub valid : (row_at key node.rows).state ≡ Valid
  pub later : (row_at key node.rows).stamp.version < stamp.version
  pub changes : (act op (register_in (row_at key node.rows)) (tag_of stamp)).changed ≡ true
  pub acts : (act op (register_in (row_at key node.rows)) (tag_of stamp)).answer ≡ answer
  pub content : (row_at key stepped.node.rows).content ≡ (act op (register_in (row_at key node.rows)) (tag_of stamp)).register.content
  pub own : (row_at key stepped.node.rows).stamp ≡ stamp
  pub kind : (row_at key stepped.node.rows).kind ≡ kind_of op
  pub goes : (WaitsFor stamp (kind_of op) (record { call = call; answer = answer }) (row_at key stepped.node.rows) × ((row_at key stepped.node.rows).state ≡ Write) × (stepped.told ≡ []))
      ⊎ (((row_at key stepped.node.rows).state ≡ Valid) × ((row_at key stepped.node.rows).pending ≡ None) × (stepped.told ≡ (key, record { call = call; answer = answer }) ∷ []))

-- a call is answered at once and nothing changes, or it begins an update
abbrev pub CallsAnswerOrStart : Type 0
CallsAnswerOrStart = (node : NodeState) (call : CallNo) (key : List ℕ) (op : Op) → IsNode node →
    ((answer : Answer) × (node_step node (Call call key op) ≡ answers node key call answer) × AtOnce (lease_end node) node.clock node.skew (row_at key node.rows) op answer)
    ⊎ Starts node call key op (node_step node (Call call key op))

-- a read leaves the node as it was, whatever it is answered
abbrev pub ReadsLeaveNodes : Type 0
ReadsLeaveNodes = (node : NodeState) (call : CallNo) (key : List ℕ) → (node_step node (Call call key Read)).node ≡ node

-- an event that names a key changes nothing of the node but that key's row
abbrev pub KeyEventsChangeOneRow : Type 0
KeyEventsChangeOneRow = (node : NodeState) (event : NodeEvent) (key : List ℕ) → key_of event ≡ Some key →
    ((node_step node event).node ≡ record node { rows = (node_step node event).node.rows })
    × ((other : List ℕ) → other ≢ key → find_row other (node_step node event).node.rows ≡ find_row other node.rows)

-- no step changes its node's number, nor by how much clocks may differ
abbrev pub StepsKeepNumbers : Type 0
StepsKeepNumbers = (node : NodeState) (event : NodeEvent) → IsNode node → IsNodeEvent event →
    ((node_step node event).node.id ≡ node.id) × ((node_step node event).node.skew ≡ node.skew)
