-- An event that names a key changes nothing of its node but rows.
use Rattle.std.proofs.Common.{◌≡◌, ◌+◌, ℕ, List, Bool, true, false, ◌&&◌, ◌==◌, if◌then◌else◌, nat_lt, Option, Some, None, refl}
use Rattle.std.proofs.lemmas.Option.{none-some}
use Rattle.hk_base.specs.declared.stamp.Stamp.{Stamp}
use Rattle.hk_base.specs.declared.stamp.NodeId.{NodeId}
use Rattle.hk_base.specs.declared.call.CallNo.{CallNo}
use Rattle.hk_base.specs.declared.call.Op.{Op}
use Rattle.hk_base.specs.declared.call.State.{State}
use Rattle.hk_base.specs.declared.call.State.TheVariants as State
use Rattle.hk_base.specs.declared.letter.Actor.{Actor}
use Rattle.hk_base.specs.declared.letter.Actor.TheVariants.{Node, Manager}
use Rattle.hk_base.specs.declared.letter.Letter.{Letter}
use Rattle.hk_base.specs.declared.letter.Body.{Body}
use Rattle.hk_base.specs.declared.letter.Body.TheVariants.{Inv, Ack, Val}
use Rattle.hk_base.specs.Register.{act}
use Rattle.hk_key.specs.declared.row.Row.{Row}
use Rattle.hk_key.specs.Table.{Done, on_ack, on_val, still, resend, replay}
use Rattle.hk_node.specs.declared.event.NodeEvent.{NodeEvent}
use Rattle.hk_node.specs.declared.event.NodeEvent.TheVariants.{Call, Receive, Resend, Replay}
use Rattle.hk_node.specs.Rows.{find_row, row_at}
use Rattle.hk_node.specs.Node.{NodeState, epoch_of, members_of, is_other}
use Rattle.hk_node.specs.Stepped.{Stepped, idle}
use Rattle.hk_node.specs.Calls.{kind_of, next_stamp, register_in, at_limit, at_turn, at_state, at_lease, lease_end, called}
use Rattle.hk_node.specs.Steps.{on_found, heard, received, is_addressed, receives_from, receives, node_step}
use Rattle.hk_node.specs.Laws.{key_in, key_of}
use Rattle.hk_node.proofs.OneRow.{changes_one_row}
use Rattle.hk_told.specs.Steps.{KeyEventsChangeOneRow}

module _ (node : NodeState) where
  -- but for rows the node is as it was
  abbrev Keeps : Stepped → Type 0
  Keeps stepped = stepped.node ≡ record node { rows = stepped.node.rows }

  by_if : (b : Bool) (stepped : Stepped) → Keeps stepped → Keeps (if b then stepped else idle node)
  by_if true stepped h = h
  by_if false stepped h = refl

  by_found : (key : List ℕ) (step : Row → Done) → Keeps (on_found (find_row key node.rows) node key step)
  by_found key step = by_row (find_row key node.rows)
    where
      by_row : (o : Option Row) → Keeps (on_found o node key step)
      by_row None = refl
      by_row (Some row) = refl

  by_call : (call : CallNo) (key : List ℕ) (op : Op) → Keeps (called node call key op)
  by_call call key op = by_lease (nat_lt (lease_end node) (node.clock + node.skew))
    where
      the_row : Row
      the_row = row_at key node.rows

      by_limit : (o : Option Stamp) → Keeps (at_limit o node call key op the_row)
      by_limit None = refl
      by_limit (Some s) = refl

      by_turn : (b : Bool) → Keeps (at_turn b node call key op the_row)
      by_turn false = refl
      by_turn true = by_limit (next_stamp (kind_of op) the_row.stamp node.id)

      by_state : (state : State) → Keeps (at_state state node call key op the_row)
      by_state State.Valid = by_turn (act op (register_in the_row) 0).changed
      by_state State.Invalid = refl
      by_state State.Write = refl
      by_state State.Replay = refl
      by_state State.Trans = refl

      by_lease : (b : Bool) → Keeps (at_lease b node call key op)
      by_lease true = refl
      by_lease false = by_state the_row.state

  by_body : (body : Body) (from : NodeId) (key : List ℕ) → key_in body ≡ Some key → Keeps (received body node from)
  by_body (Inv k s kind content) from key names = refl
  by_body (Ack k s top) from key names = by_found k (λ row. on_ack node.id (members_of node) row from s top)
  by_body (Val k s) from key names = by_found k (λ row. still (on_val row s))
  by_body body from key names = absurd (none-some key names)

  -- a letter of a manager that names a key changes nothing
  by_heard : (body : Body) (manager : ℕ) (key : List ℕ) → key_in body ≡ Some key → Keeps (heard body node manager)
  by_heard (Inv k s kind content) manager key names = refl
  by_heard (Ack k s top) manager key names = refl
  by_heard (Val k s) manager key names = refl
  by_heard body manager key names = absurd (none-some key names)

  by_letter : (letter : Letter) (key : List ℕ) → key_in letter.body ≡ Some key → Keeps (receives node letter)
  by_letter letter key names = by_sender letter.from
    where
      by_sender : (actor : Actor) → Keeps (receives_from actor node letter)
      by_sender (Manager from) = by_if (is_addressed node letter.to && nat_lt from node.managers) (heard letter.body node from) (by_heard letter.body from key names)
      by_sender (Node from) = by_if (is_addressed node letter.to && ((letter.epoch == epoch_of node) && is_other node from)) (received letter.body node from)
          (by_body letter.body from key names)

keeps_rest : (node : NodeState) (event : NodeEvent) (key : List ℕ) → key_of event ≡ Some key → Keeps node (node_step node event)
keeps_rest node (Call call k op) key names = by_call node call k op
keeps_rest node (Receive letter) key names = by_letter node letter key names
keeps_rest node (Resend k) key names = by_found node k resend
keeps_rest node (Replay k) key names = by_if node node.ready (on_found (find_row k node.rows) node k (replay node.id (members_of node))) (by_found node k (replay node.id (members_of node)))
keeps_rest node event key names = absurd (none-some key names)

pub key_events_change_one_row : KeyEventsChangeOneRow
key_events_change_one_row node event key names = (keeps_rest node event key names, λ other ne. changes_one_row node event key other names ne)
