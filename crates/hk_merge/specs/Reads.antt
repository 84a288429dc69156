-- What a Read is answered, and which events of a node leave that answer as it is.
use Rattle.std.specs.Prelude.{◌≡◌, ◌≢◌, ◌⊎◌, ⊤, ℕ, ◌+◌, List, Bool, true, false, Some, nat_lt}
use Rattle.hk_base.specs.declared.call.CallNo.{CallNo}
use Rattle.hk_base.specs.declared.call.Answer.{Answer}
use Rattle.hk_base.specs.declared.call.Answer.TheVariants.{Busy}
use Rattle.hk_base.specs.declared.call.Why.TheVariants as Why
use Rattle.hk_base.specs.declared.call.Op.TheVariants.{Read}
use Rattle.hk_base.specs.declared.call.State.{State}
use Rattle.hk_base.specs.declared.call.State.TheVariants as State
use Rattle.hk_base.specs.Register.{act}
use Rattle.hk_key.specs.declared.row.Row.{Row}
use Rattle.hk_node.specs.declared.event.NodeEvent.{NodeEvent}
use Rattle.hk_node.specs.declared.event.NodeEvent.TheVariants.{Call, Receive, Resend, Replay}
use Rattle.hk_node.specs.Rows.{find_row, row_at}
use Rattle.hk_node.specs.Node.{NodeState}
use Rattle.hk_node.specs.Calls.{register_in, answers, lease_end, called}
use Rattle.hk_node.specs.Steps.{node_step}
use Rattle.hk_node.specs.Laws.{key_of}

-- by the row's state: a Valid row is read, any other is Busy
abbrev pub read_in : State → Row → Answer
read_in State.Valid row = (act Read (register_in row) 0).answer
read_in State.Invalid row = Busy (Why.Row row.state row.stamp)
read_in State.Write row = Busy (Why.Row row.state row.stamp)
read_in State.Replay row = Busy (Why.Row row.state row.stamp)
read_in State.Trans row = Busy (Why.Row row.state row.stamp)

-- by whether the lease may be over
abbrev pub read_at : Bool → NodeState → Row → Answer
read_at true node row = Busy (Why.Lease (lease_end node) node.clock)
read_at false node row = read_in row.state row

-- what a Read of the key is answered at the node
abbrev pub read_answer : NodeState → List ℕ → Answer
read_answer node key = read_at (nat_lt (lease_end node) (node.clock + node.skew)) node (row_at key node.rows)

-- A Read is answered at once, whatever its number, and nothing changes.
abbrev pub ReadsAreAnswered : Type 0
ReadsAreAnswered = (node : NodeState) (key : List ℕ) (call : CallNo) → called node call key Read ≡ answers node key call (read_answer node key)

-- a ready node of a group that has no managers
pub record IsServing (node : NodeState) : Type 0 where
  pub ready : node.ready ≡ true
  pub alone : node.managers ≡ 0

-- the node is the same in all but rows of other keys
pub record AsTo (key : List ℕ) (old new : NodeState) : Type 0 where
  pub rest : new ≡ record old { rows = new.rows }
  pub row : find_row key new.rows ≡ find_row key old.rows

-- no more than these decides a Read
abbrev pub ReadsAreOfTheRow : Type 0
ReadsAreOfTheRow = (key : List ℕ) (old new : NodeState) → AsTo key old new → read_answer new key ≡ read_answer old key

-- the events of a node that a merged run has
abbrev pub IsMerged : NodeEvent → Type 0
IsMerged (Call call key op) = ⊤
IsMerged (Receive letter) = ⊤
IsMerged (Resend key) = ⊤
IsMerged (Replay key) = ⊤
IsMerged event = ⊥

abbrev pub IsRead : NodeEvent → Type 0
IsRead (Call call key op) = op ≡ Read
IsRead event = ⊥

-- At such a node they change the row of the key that they name at most, and a Read changes nothing.
abbrev pub OthersStay : Type 0
OthersStay = (node : NodeState) (event : NodeEvent) (key : List ℕ) → IsServing node → IsMerged event →
    IsRead event ⊎ (key_of event ≢ Some key) → AsTo key node (node_step node event).node
