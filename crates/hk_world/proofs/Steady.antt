-- No step but a tick changes a node's number, its skew, how many managers it has, or its clock.
use Rattle.std.proofs.Common.{◌≡◌, ◌+◌, ◌&&◌, ◌==◌, ℕ, Bool, true, false, cond, not, nat_lt, List, Option, Some, None, refl}
use Rattle.hk_base.specs.declared.stamp.NodeId.{NodeId}
use Rattle.hk_base.specs.declared.stamp.Stamp.{Stamp}
use Rattle.hk_base.specs.declared.call.CallNo.{CallNo}
use Rattle.hk_base.specs.declared.call.Op.{Op}
use Rattle.hk_base.specs.declared.call.State.{State}
use Rattle.hk_base.specs.declared.call.State.TheVariants.{Valid, Invalid, Write, Replay, Trans}
use Rattle.hk_base.specs.declared.letter.Actor.{Actor}
use Rattle.hk_base.specs.declared.letter.Actor.TheVariants.{Node, Manager}
use Rattle.hk_base.specs.declared.letter.Letter.{Letter}
use Rattle.hk_base.specs.declared.letter.Body.{Body}
use Rattle.hk_base.specs.declared.letter.Body.TheVariants.{Inv, Ack, Val, CopyAsk, CopyGive, LeaseAsk, LeaseGive, Prepare, Promise, Accept, Accepted, Chosen, Activate}
use Rattle.hk_base.specs.declared.view.View.{View}
use Rattle.hk_base.specs.Register.{act}
use Rattle.hk_key.specs.declared.row.Row.{Row}
use Rattle.hk_key.specs.Table.{Done}
use Rattle.hk_node.specs.Node.{NodeState, epoch_of, is_other}
use Rattle.hk_base.specs.View.{is_member}
use Rattle.hk_node.specs.Rows.{row_at, find_row}
use Rattle.hk_node.specs.Stepped.{Stepped}
use Rattle.hk_node.specs.Calls.{called, at_lease, at_state, at_turn, at_limit, lease_end, next_stamp, kind_of, register_in}
use Rattle.hk_node.specs.Copies.{asks_copy, is_next}
use Rattle.hk_node.specs.Heard.{raised, is_greatest, has_majority}
use Rattle.hk_node.specs.Steps.{heard, asks_lease, receives, receives_from, received, resent, replayed, installs, on_found, is_addressed}

pub record IsSteady (node : NodeState) (stepped : Stepped) : Type 0 where
  pub id : stepped.node.id ≡ node.id
  pub skew : stepped.node.skew ≡ node.skew
  pub managers : stepped.node.managers ≡ node.managers
  pub clock : stepped.node.clock ≡ node.clock

pub either : (node : NodeState) (b : Bool) (x y : Stepped) → IsSteady node x → IsSteady node y → IsSteady node (cond b x y)
either node true x y p q = p
either node false x y p q = q

still : (node : NodeState) (stepped : Stepped) → stepped.node.id ≡ node.id → stepped.node.skew ≡ node.skew → stepped.node.managers ≡ node.managers → stepped.node.clock ≡ node.clock → IsSteady node stepped
still node stepped i s m c = record { id = i; skew = s; managers = m; clock = c }

limit_steady : (o : Option Stamp) (node : NodeState) (call : CallNo) (key : List ℕ) (op : Op) (row : Row) → IsSteady node (at_limit o node call key op row)
limit_steady None node call key op row = still _ _ refl refl refl refl
limit_steady (Some s) node call key op row = still _ _ refl refl refl refl

turn_steady : (b : Bool) (node : NodeState) (call : CallNo) (key : List ℕ) (op : Op) (row : Row) → IsSteady node (at_turn b node call key op row)
turn_steady false node call key op row = still _ _ refl refl refl refl
turn_steady true node call key op row = limit_steady (next_stamp (kind_of op) row.stamp node.id) node call key op row

state_steady : (s : State) (node : NodeState) (call : CallNo) (key : List ℕ) (op : Op) (row : Row) → IsSteady node (at_state s node call key op row)
state_steady Valid node call key op row = turn_steady (act op (register_in row) 0).changed node call key op row
state_steady Invalid node call key op row = still _ _ refl refl refl refl
state_steady Write node call key op row = still _ _ refl refl refl refl
state_steady Replay node call key op row = still _ _ refl refl refl refl
state_steady Trans node call key op row = still _ _ refl refl refl refl

lease_steady : (b : Bool) (node : NodeState) (call : CallNo) (key : List ℕ) (op : Op) → IsSteady node (at_lease b node call key op)
lease_steady true node call key op = still _ _ refl refl refl refl
lease_steady false node call key op = state_steady (row_at key node.rows).state node call key op (row_at key node.rows)

pub call_steady : (node : NodeState) (call : CallNo) (key : List ℕ) (op : Op) → IsSteady node (called node call key op)
call_steady node call key op = lease_steady (nat_lt (lease_end node) (node.clock + node.skew)) node call key op

found_steady : (o : Option Row) (node : NodeState) (key : List ℕ) (step : Row → Done) → IsSteady node (on_found o node key step)
found_steady None node key step = still _ _ refl refl refl refl
found_steady (Some row) node key step = still _ _ refl refl refl refl

pub resend_steady : (node : NodeState) (key : List ℕ) → IsSteady node (resent node key)
resend_steady node key = found_steady (find_row key node.rows) node key _

pub replay_steady : (node : NodeState) (key : List ℕ) → IsSteady node (replayed node key)
replay_steady node key = either node node.ready _ _ (found_steady (find_row key node.rows) node key _) (still _ _ refl refl refl refl)

pub copy_steady : (node : NodeState) (from : NodeId) (room : ℕ) → IsSteady node (asks_copy node from room)
copy_steady node from room = either node (not node.ready && is_other node from) _ _ (still _ _ refl refl refl refl) (still _ _ refl refl refl refl)

pub install_steady : (node : NodeState) (view : View) → IsSteady node (installs node view)
install_steady node view = either node (nat_lt (epoch_of node) view.epoch && is_member node.id view.members) _ _ (still _ _ refl refl refl refl) (still _ _ refl refl refl refl)

received_steady : (body : Body) (node : NodeState) (from : NodeId) → IsSteady node (received body node from)
received_steady (Inv key s kind content) node from = still _ _ refl refl refl refl
received_steady (Ack key s top) node from = found_steady (find_row key node.rows) node key _
received_steady (Val key s) node from = found_steady (find_row key node.rows) node key _
received_steady (CopyAsk after room) node from = either node node.ready _ _ (still _ _ refl refl refl refl) (still _ _ refl refl refl refl)
received_steady (CopyGive after done items) node from = either node (not node.ready && is_next after node.cursor) _ _ (still _ _ refl refl refl refl) (still _ _ refl refl refl refl)
received_steady (LeaseAsk asked) node from = still _ _ refl refl refl refl
received_steady (LeaseGive end) node from = still _ _ refl refl refl refl
received_steady (Prepare ballot) node from = still _ _ refl refl refl refl
received_steady (Promise ballot vote) node from = still _ _ refl refl refl refl
received_steady (Accept ballot view) node from = still _ _ refl refl refl refl
received_steady (Accepted ballot) node from = still _ _ refl refl refl refl
received_steady (Chosen view) node from = still _ _ refl refl refl refl
received_steady (Activate view) node from = still _ _ refl refl refl refl

-- what is heard from managers, of a node that is steady to another
heard_steady : (body : Body) (node : NodeState) (manager : ℕ) → IsSteady node (heard body node manager)
heard_steady (LeaseGive end) node manager = still _ _ refl refl refl refl
heard_steady (Activate view) node manager = either node (is_greatest view.epoch node.activated) _ _
    (either node (has_majority view.epoch (raised manager view.epoch node.activated)) _ _
    (either node (nat_lt (epoch_of node) view.epoch && is_member node.id view.members) _ _ (still _ _ refl refl refl refl) (still _ _ refl refl refl refl)) (still _ _ refl refl refl refl)) (still _ _ refl refl refl refl)
heard_steady (Inv key s kind content) node manager = still _ _ refl refl refl refl
heard_steady (Ack key s top) node manager = still _ _ refl refl refl refl
heard_steady (Val key s) node manager = still _ _ refl refl refl refl
heard_steady (CopyAsk after room) node manager = still _ _ refl refl refl refl
heard_steady (CopyGive after done items) node manager = still _ _ refl refl refl refl
heard_steady (LeaseAsk asked) node manager = still _ _ refl refl refl refl
heard_steady (Prepare ballot) node manager = still _ _ refl refl refl refl
heard_steady (Promise ballot vote) node manager = still _ _ refl refl refl refl
heard_steady (Accept ballot view) node manager = still _ _ refl refl refl refl
heard_steady (Accepted ballot) node manager = still _ _ refl refl refl refl
heard_steady (Chosen view) node manager = still _ _ refl refl refl refl

pub asks_steady : (node : NodeState) (manager : ℕ) → IsSteady node (asks_lease node manager)
asks_steady node manager = either node (nat_lt manager node.managers) _ _ (still _ _ refl refl refl refl) (still _ _ refl refl refl refl)

from_steady : (actor : Actor) (node : NodeState) (letter : Letter) → IsSteady node (receives_from actor node letter)
from_steady (Manager m) node letter = either node (is_addressed node letter.to && nat_lt m node.managers) _ _ (heard_steady letter.body node m) (still _ _ refl refl refl refl)
from_steady (Node from) node letter = either node (is_addressed node letter.to && ((letter.epoch == epoch_of node) && is_other node from)) _ _ (received_steady letter.body node from) (still _ _ refl refl refl refl)

pub receive_steady : (node : NodeState) (letter : Letter) → IsSteady node (receives node letter)
receive_steady node letter = from_steady letter.from node letter
