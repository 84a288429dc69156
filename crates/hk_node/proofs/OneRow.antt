-- An event that names a key changes no other row.
use Rattle.std.proofs.Common.{◌≡◌, ◌≢◌, ◌+◌, ℕ, List, Bool, true, false, ◌&&◌, ◌==◌, if◌then◌else◌, nat_lt, Option, Some, None, refl, ◌∙◌, arith}
use Rattle.std.proofs.lemmas.Option.{none-some}
use Rattle.hk_base.specs.declared.stamp.Stamp.{Stamp}
use Rattle.hk_base.specs.declared.stamp.NodeId.{NodeId}
use Rattle.hk_base.specs.declared.call.CallNo.{CallNo}
use Rattle.hk_base.specs.declared.call.Op.{Op}
use Rattle.hk_base.specs.declared.call.State.{State}
use Rattle.hk_base.specs.declared.letter.Actor.{Actor}
use Rattle.hk_base.specs.declared.letter.Actor.TheVariants.{Node, Manager}
use Rattle.hk_base.specs.declared.letter.Letter.{Letter}
use Rattle.hk_base.specs.declared.letter.Body.{Body}
use Rattle.hk_base.specs.declared.letter.Body.TheVariants.{Inv, Ack, Val}
use Rattle.hk_base.specs.Register.{act}
use Rattle.hk_key.specs.declared.row.Row.{Row}
use Rattle.hk_key.specs.Table.{Done, on_inv, on_ack, on_val, still, resend, replay}
use Rattle.hk_node.specs.declared.event.NodeEvent.TheVariants.{Call, Receive, Resend, Replay}
use Rattle.hk_node.specs.Rows.{find_row, row_at}
use Rattle.hk_node.specs.Node.{NodeState, epoch_of, members_of, is_other}
use Rattle.hk_node.specs.Stepped.{Stepped, idle}
use Rattle.hk_node.specs.Calls.{kind_of, next_stamp, register_in, at_limit, at_turn, at_state, at_lease, lease_end, called}
use Rattle.hk_node.specs.Steps.{on_found, heard, received, is_addressed, receives_from, receives}
use Rattle.hk_node.specs.Laws.{key_in, ChangesOneRow}
use Rattle.hk_node.proofs.Order.{find-with_other}
use Rattle.hk_node.proofs.Keeps.{begun}

some_same : (x y : List ℕ) → Some x ≡ Some y → x ≡ y
some_same x y e = grind arith

module _ (node : NodeState) (other : List ℕ) where
  -- the other row is as it was
  abbrev Keeps : Stepped → Type 0
  Keeps stepped = find_row other stepped.node.rows ≡ find_row other node.rows

  by_if : (b : Bool) (stepped : Stepped) → Keeps stepped → Keeps (if b then stepped else idle node)
  by_if true stepped h = h
  by_if false stepped h = refl

  by_found : (key : List ℕ) (step : Row → Done) → other ≢ key → Keeps (on_found (find_row key node.rows) node key step)
  by_found key step ne = by_row (find_row key node.rows)
    where
      by_row : (o : Option Row) → Keeps (on_found o node key step)
      by_row None = refl
      by_row (Some row) = find-with_other other key (step row).row node.rows ne

  by_call : (call : CallNo) (key : List ℕ) (op : Op) → other ≢ key → Keeps (called node call key op)
  by_call call key op ne = by_lease (nat_lt (lease_end node) (node.clock + node.skew))
    where
      the_row : Row
      the_row = row_at key node.rows

      by_limit : (o : Option Stamp) → Keeps (at_limit o node call key op the_row)
      by_limit None = refl
      by_limit (Some s) = find-with_other other key (begun node call op the_row s).row node.rows ne

      by_turn : (b : Bool) → Keeps (at_turn b node call key op the_row)
      by_turn false = refl
      by_turn true = by_limit (next_stamp (kind_of op) the_row.stamp node.id)

      by_state : (state : State) → Keeps (at_state state node call key op the_row)
      by_state State.Valid = by_turn (act op (register_in the_row) 0).changed
      by_state State.Invalid = refl
      by_state State.Write = refl
      by_state State.Replay = refl
      by_state State.Trans = refl

      by_lease : (b : Bool) → Keeps (at_lease b node call key op)
      by_lease true = refl
      by_lease false = by_state the_row.state

  by_body : (body : Body) (from : NodeId) (key : List ℕ) → key_in body ≡ Some key → other ≢ key → Keeps (received body node from)
  by_body (Inv k s kind content) from key names ne =
      find-with_other other k (on_inv (row_at k node.rows) from s kind content).row node.rows (λ e. ne (e ∙ some_same k key names))
  by_body (Ack k s top) from key names ne = by_found k (λ row. on_ack node.id (members_of node) row from s top) (λ e. ne (e ∙ some_same k key names))
  by_body (Val k s) from key names ne = by_found k (λ row. still (on_val row s)) (λ e. ne (e ∙ some_same k key names))
  by_body body from key names ne = absurd (none-some key names)

  -- a letter of a manager that names a key changes nothing
  by_heard : (body : Body) (manager : ℕ) (key : List ℕ) → key_in body ≡ Some key → Keeps (heard body node manager)
  by_heard (Inv k s kind content) manager key names = refl
  by_heard (Ack k s top) manager key names = refl
  by_heard (Val k s) manager key names = refl
  by_heard body manager key names = absurd (none-some key names)

  by_letter : (letter : Letter) (key : List ℕ) → key_in letter.body ≡ Some key → other ≢ key → Keeps (receives node letter)
  by_letter letter key names ne = by_sender letter.from
    where
      by_sender : (actor : Actor) → Keeps (receives_from actor node letter)
      by_sender (Manager from) = by_if (is_addressed node letter.to && nat_lt from node.managers) (heard letter.body node from) (by_heard letter.body from key names)
      by_sender (Node from) = by_if (is_addressed node letter.to && ((letter.epoch == epoch_of node) && is_other node from)) (received letter.body node from)
          (by_body letter.body from key names ne)

pub changes_one_row : ChangesOneRow
changes_one_row node (Call call k op) key other names ne = by_call node other call k op (λ e. ne (e ∙ some_same k key names))
changes_one_row node (Receive letter) key other names ne = by_letter node other letter key names ne
changes_one_row node (Resend k) key other names ne = by_found node other k resend (λ e. ne (e ∙ some_same k key names))
changes_one_row node (Replay k) key other names ne = by_if node other node.ready (on_found (find_row k node.rows) node k (replay node.id (members_of node)))
    (by_found node other k (replay node.id (members_of node)) (λ e. ne (e ∙ some_same k key names)))
changes_one_row node event key other names ne = absurd (none-some key names)
