-- The letters of a node's step keep the limit of a batch.
use Rattle.std.proofs.Common.{◌+◌, ℕ, List, [], ◌∷◌, Bool, true, false, not, ◌&&◌, ◌==◌, if◌then◌else◌, nat_lt, Option, Some, None}
use Rattle.std.specs.List.{AllByRecursion}
use Rattle.hk_base.specs.declared.call.CallNo.{CallNo}
use Rattle.hk_base.specs.declared.call.Op.{Op}
use Rattle.hk_base.specs.declared.call.State.{State}
use Rattle.hk_base.specs.declared.call.State.TheVariants as State
use Rattle.hk_base.specs.declared.stamp.Stamp.{Stamp}
use Rattle.hk_base.specs.declared.stamp.NodeId.{NodeId}
use Rattle.hk_base.specs.declared.view.View.{View}
use Rattle.hk_base.specs.declared.letter.Actor.{Actor}
use Rattle.hk_base.specs.declared.letter.Actor.TheVariants.{Node, Manager}
use Rattle.hk_base.specs.declared.letter.Letter.{Letter}
use Rattle.hk_base.specs.declared.letter.Body.{Body}
use Rattle.hk_base.specs.declared.letter.Body.TheVariants.{Inv, Ack, Val, CopyAsk, CopyGive, LeaseAsk, LeaseGive, Prepare, Promise, Accept, Accepted, Chosen, Activate}
use Rattle.hk_base.specs.Range.{IsLetter}
use Rattle.hk_base.specs.Register.{act}
use Rattle.hk_copy.specs.Batches.{is_nil, rows_after}
use Rattle.hk_copy.specs.declared.given.TheConstants.{MAX_BATCH_BYTES}
use Rattle.hk_frame.specs.Laws.{KeepsBatchLimit, AllFit}
use Rattle.hk_key.specs.declared.out.Sending.{Sending}
use Rattle.hk_key.specs.declared.out.What.{What}
use Rattle.hk_key.specs.declared.out.What.TheVariants as What
use Rattle.hk_key.specs.declared.row.Pending.{Pending}
use Rattle.hk_key.specs.declared.row.Row.{Row}
use Rattle.hk_key.specs.Table.{Done, on_inv, on_ack, on_val, resend, replay, still}
use Rattle.hk_node.specs.declared.event.NodeEvent.{NodeEvent}
use Rattle.hk_node.specs.declared.event.NodeEvent.TheVariants.{Call, Receive, Resend, Replay, AskLease, AskCopy, Tick, Grant, Install}
use Rattle.hk_node.specs.Rows.{Rows, find_row, row_at}
use Rattle.hk_node.specs.Node.{NodeState, epoch_of, members_of, is_other}
use Rattle.hk_base.specs.View.{is_member}
use Rattle.hk_node.specs.Heard.{raised, is_greatest, has_majority}
use Rattle.hk_node.specs.Sends.{letters_to, pending_body, body_of, addressees, sent}
use Rattle.hk_node.specs.Stepped.{Stepped, idle, row_step}
use Rattle.hk_node.specs.Calls.{kind_of, next_stamp, register_in, at_limit, at_turn, at_state, at_lease, lease_end, called}
use Rattle.hk_node.specs.Copies.{batch_behind, copies_of, is_next}
use Rattle.hk_node.specs.Steps.{on_found, viewed, installed_in, installs, heard, received, is_addressed, receives_from, node_step}
use Rattle.hk_node.specs.Laws.{LettersInRange}
use Rattle.hk_node.proofs.Keeps.{begun}
use Rattle.hk_node.proofs.Ranged.{all_parts}
use Rattle.hk_sent.specs.Sent.{IsSent, NodesSend, SentIsInRange}
use Rattle.hk_sent.proofs.Cutting.{cut_small}

abbrev pub Keeps : Letter → Type 0
Keeps letter = KeepsBatchLimit letter.body

abbrev pub AllKeep : List Letter → Type 0
AllKeep letters = AllByRecursion Keeps letters

-- letters that are in range and keep the limit
pub all_sent : (letters : List Letter) → AllByRecursion IsLetter letters → AllKeep letters → AllByRecursion IsSent letters
all_sent [] within keep = tt
all_sent (letter ∷ letters) within keep = (record { parts = within.0; limit = keep.0 }, all_sent letters within.1 keep.1)

pub by_if : (b : Bool) (node : NodeState) (stepped : Stepped) → AllKeep stepped.letters → AllKeep (if b then stepped else idle node).letters
by_if true node stepped keep = keep
by_if false node stepped keep = tt

-- ---- the letters of a row
to_each : (node : NodeState) (body : Body) (to : List NodeId) → KeepsBatchLimit body → AllKeep (letters_to node body to)
to_each node body [] keeps = tt
to_each node body (n ∷ to) keeps = (keeps, to_each node body to keeps)

pending_keeps : (key : List ℕ) (row : Row) (pending : Option Pending) → KeepsBatchLimit (pending_body key row pending)
pending_keeps key row None = tt
pending_keeps key row (Some p) = tt

body_keeps : (key : List ℕ) (row : Row) (what : What) → KeepsBatchLimit (body_of key row what)
body_keeps key row What.InvRow = tt
body_keeps key row What.InvPending = pending_keeps key row row.pending
body_keeps key row (What.Ack s top) = tt
body_keeps key row (What.Val s) = tt

sent_keep : (node : NodeState) (key : List ℕ) (row : Row) (send : Option Sending) → AllKeep (sent node key row send)
sent_keep node key row None = tt
sent_keep node key row (Some sending) = to_each node (body_of key row sending.what) (addressees node row sending.aim) (body_keeps key row sending.what)

row_keep : (node : NodeState) (key : List ℕ) (done : Done) → AllKeep (row_step node key done).letters
row_keep node key done = sent_keep node key done.row done.out.send

found_keep : (o : Option Row) (node : NodeState) (key : List ℕ) (step : Row → Done) → AllKeep (on_found o node key step).letters
found_keep None node key step = tt
found_keep (Some row) node key step = row_keep node key (step row)

-- ---- a view
each_keep : (node : NodeState) (rows : Rows) → AllByRecursion (λ r. AllKeep (sent node r.0 (viewed node r).row (viewed node r).out.send)) rows
each_keep node [] = tt
each_keep node (r ∷ rows) = (sent_keep node r.0 (viewed node r).row (viewed node r).out.send, each_keep node rows)

installed_keep : (node : NodeState) (epoch : ℕ) → AllKeep (installed_in node epoch).letters
installed_keep node epoch = all_parts Keeps (λ r. sent node r.0 (viewed node r).row (viewed node r).out.send) node.rows (each_keep node node.rows)

installs_keep : (node : NodeState) (view : View) → AllKeep (installs node view).letters
installs_keep node view = by_if (nat_lt (epoch_of node) view.epoch && is_member node.id view.members) node _ (installed_keep (record node { view = Some view }) view.epoch)

-- ---- a batch
batch_keeps : (node : NodeState) (after : Option (List ℕ)) (room : ℕ) → KeepsBatchLimit (CopyGive after (is_nil (batch_behind node after room).left) (batch_behind node after room).taken)
batch_keeps node after room = cut_small room MAX_BATCH_BYTES (rows_after after (copies_of node.rows))

-- ---- calls
call_keep : (node : NodeState) (call : CallNo) (key : List ℕ) (op : Op) → AllKeep (called node call key op).letters
call_keep node call key op = by_lease (nat_lt (lease_end node) (node.clock + node.skew))
  where
    the_row : Row
    the_row = row_at key node.rows

    by_limit : (o : Option Stamp) → AllKeep (at_limit o node call key op the_row).letters
    by_limit None = tt
    by_limit (Some s) = row_keep node key (begun node call op the_row s)

    by_turn : (b : Bool) → AllKeep (at_turn b node call key op the_row).letters
    by_turn false = tt
    by_turn true = by_limit (next_stamp (kind_of op) the_row.stamp node.id)

    by_state : (state : State) → AllKeep (at_state state node call key op the_row).letters
    by_state State.Valid = by_turn (act op (register_in the_row) 0).changed
    by_state State.Invalid = tt
    by_state State.Write = tt
    by_state State.Replay = tt
    by_state State.Trans = tt

    by_lease : (b : Bool) → AllKeep (at_lease b node call key op).letters
    by_lease true = tt
    by_lease false = by_state the_row.state

-- ---- letters
received_keep : (body : Body) (node : NodeState) (from : NodeId) → AllKeep (received body node from).letters
received_keep (Inv key s kind content) node from = row_keep node key (on_inv (row_at key node.rows) from s kind content)
received_keep (Ack key s top) node from = found_keep (find_row key node.rows) node key (λ row. on_ack node.id (members_of node) row from s top)
received_keep (Val key s) node from = found_keep (find_row key node.rows) node key (λ row. still (on_val row s))
received_keep (CopyAsk after room) node from = by_if node.ready node _ (batch_keeps node after room, tt)
received_keep (CopyGive after done items) node from = by_if (not node.ready && is_next after node.cursor) node _ tt
received_keep (LeaseAsk asked) node from = tt
received_keep (LeaseGive end) node from = tt
received_keep (Prepare ballot) node from = tt
received_keep (Promise ballot vote) node from = tt
received_keep (Accept ballot view) node from = tt
received_keep (Accepted ballot) node from = tt
received_keep (Chosen view) node from = tt
received_keep (Activate view) node from = tt

heard_keep : (body : Body) (node : NodeState) (manager : ℕ) → AllKeep (heard body node manager).letters
heard_keep (LeaseGive end) node manager = tt
heard_keep (Activate view) node manager =
    let after = raised manager view.epoch node.activated in
    by_if (is_greatest view.epoch node.activated) node _ (by_if (has_majority view.epoch after) (record node { activated = after }) _ (installs_keep (record node { activated = after }) view))
heard_keep (Inv key s kind content) node manager = tt
heard_keep (Ack key s top) node manager = tt
heard_keep (Val key s) node manager = tt
heard_keep (CopyAsk after room) node manager = tt
heard_keep (CopyGive after done items) node manager = tt
heard_keep (LeaseAsk asked) node manager = tt
heard_keep (Prepare ballot) node manager = tt
heard_keep (Promise ballot vote) node manager = tt
heard_keep (Accept ballot view) node manager = tt
heard_keep (Accepted ballot) node manager = tt
heard_keep (Chosen view) node manager = tt

from_keep : (actor : Actor) (node : NodeState) (letter : Letter) → AllKeep (receives_from actor node letter).letters
from_keep (Manager from) node letter = by_if (is_addressed node letter.to && nat_lt from node.managers) node _ (heard_keep letter.body node from)
from_keep (Node from) node letter = by_if (is_addressed node letter.to && ((letter.epoch == epoch_of node) && is_other node from)) node _ (received_keep letter.body node from)

-- ---- every step
pub step_keep : (node : NodeState) (event : NodeEvent) → AllKeep (node_step node event).letters
step_keep node (Call call key op) = call_keep node call key op
step_keep node (Receive letter) = from_keep letter.from node letter
step_keep node (Resend key) = found_keep (find_row key node.rows) node key resend
step_keep node (Replay key) = by_if node.ready node _ (found_keep (find_row key node.rows) node key (replay node.id (members_of node)))
step_keep node (AskLease manager) = by_if (nat_lt manager node.managers) node _ (tt, tt)
step_keep node (AskCopy from room) = by_if (not node.ready && is_other node from) node _ (tt, tt)
step_keep node (Tick now) = tt
step_keep node (Grant end) = tt
step_keep node (Install view) = installs_keep node view

pub nodes_send : LettersInRange → NodesSend
nodes_send within node event is may = all_sent (node_step node event).letters (within node event is may) (step_keep node event)

pub sent_is_in_range : AllFit → SentIsInRange
sent_is_in_range fit letter value sent = record { parts = sent.parts; fits = fit letter value sent.parts sent.limit }
