-- The end of a lease and a clock never fall.
use Rattle.std.proofs.Common.{◌≡◌, ◌≤◌, ◌+◌, ◌&&◌, ◌==◌, ℕ, Bool, true, false, not, if◌then◌else◌, nat_lt, List, Option, Some, None, refl, sym, subst, arith, le_refl}
use Rattle.std.proofs.lemmas.Bool.{and_parts, false≢true}
use Rattle.hk_base.specs.declared.stamp.Stamp.{Stamp}
use Rattle.hk_base.specs.declared.stamp.NodeId.{NodeId}
use Rattle.hk_base.specs.declared.call.CallNo.{CallNo}
use Rattle.hk_base.specs.declared.call.Op.{Op}
use Rattle.hk_base.specs.declared.call.State.{State}
use Rattle.hk_base.specs.declared.view.View.{View}
use Rattle.hk_base.specs.declared.letter.Actor.{Actor}
use Rattle.hk_base.specs.declared.letter.Actor.TheVariants.{Node, Manager}
use Rattle.hk_base.specs.declared.letter.Letter.{Letter}
use Rattle.hk_base.specs.declared.letter.Body.{Body}
use Rattle.hk_base.specs.declared.letter.Body.TheVariants.{Inv, Ack, Val, CopyAsk, CopyGive, LeaseAsk, LeaseGive, Prepare, Promise, Accept, Accepted, Chosen, Activate}
use Rattle.hk_base.specs.Register.{act}
use Rattle.hk_key.specs.declared.row.Row.{Row}
use Rattle.hk_key.specs.Table.{Done}
use Rattle.hk_node.specs.declared.event.NodeEvent.TheVariants.{Call, Receive, Resend, Replay, AskLease, AskCopy, Tick, Grant, Install}
use Rattle.hk_node.specs.Rows.{find_row, row_at}
use Rattle.hk_node.specs.Node.{NodeState, epoch_of, is_other}
use Rattle.hk_base.specs.View.{is_member}
use Rattle.hk_node.specs.Heard.{raised, is_greatest, has_majority}
use Rattle.hk_node.specs.Copies.{is_next}
use Rattle.hk_node.specs.Stepped.{Stepped, idle}
use Rattle.hk_node.specs.Calls.{kind_of, next_stamp, register_in, at_limit, at_turn, at_state, at_lease, lease_end}
use Rattle.hk_node.specs.Steps.{on_found, installs, installs_by_majority, heard, received, is_addressed, receives_from}
use Rattle.hk_shard.specs.Laws.{IsNotBelow, LeasesNeverFall}

end_by : (b c : Bool) (x y : ℕ) → (b ≡ true → c ≡ true) → x ≤ y → (if b then x else 0) ≤ (if c then y else 0)
end_by true true x y stays up = up
end_by true false x y stays up = absurd (false≢true (stays refl))
end_by false c x y stays up = omega arith

abbrev Rises : NodeState → Stepped → Type 0
Rises node stepped = IsNotBelow node stepped.node

rises : (old new : NodeState) → (old.ready ≡ true → new.ready ≡ true) → old.granted ≤ new.granted → old.clock ≤ new.clock → IsNotBelow old new
rises old new stays granted clock = record { end = end_by old.ready new.ready old.granted new.granted stays granted; clock = clock }

-- neither is touched
level : (old new : NodeState) → new.ready ≡ old.ready → new.granted ≡ old.granted → new.clock ≡ old.clock → IsNotBelow old new
level old new ready granted clock = rises old new (λ e. subst (λ b. b ≡ true) (sym ready) e) (omega (arith, granted)) (omega (arith, clock))

rests : (node : NodeState) → Rises node (idle node)
rests node = level node node refl refl refl

by_if : (b : Bool) (node from : NodeState) (stepped : Stepped) → Rises node (idle from) → (b ≡ true → Rises node stepped) → Rises node (if b then stepped else idle from)
by_if true node from stepped none some = some refl
by_if false node from stepped none some = none

by_found : (o : Option Row) (node : NodeState) (key : List ℕ) (step : Row → Done) → Rises node (on_found o node key step)
by_found None node key step = rests node
by_found (Some row) node key step = level node _ refl refl refl

not_is : (b : Bool) → not b ≡ true → b ≡ true → ⊥
not_is true e f = false≢true e
not_is false e f = false≢true f

installed : (node from : NodeState) (view : View) → Rises node (idle from) → from.ready ≡ node.ready → from.granted ≡ node.granted → from.clock ≡ node.clock → Rises node (installs from view)
installed node from view none ready granted clock = by_if (nat_lt (epoch_of from) view.epoch && is_member from.id view.members) node from _ none (λ t. level node _ ready granted clock)

by_body : (body : Body) (node : NodeState) (from : NodeId) → Rises node (received body node from)
by_body (Inv key s kind content) node from = level node _ refl refl refl
by_body (Ack key s top) node from = by_found (find_row key node.rows) node key _
by_body (Val key s) node from = by_found (find_row key node.rows) node key _
by_body (CopyAsk after room) node from = by_if node.ready node node _ (rests node) (λ t. level node _ refl refl refl)
by_body (CopyGive after done items) node from = by_if (not node.ready && is_next after node.cursor) node node _ (rests node)
    (λ t. rises node _ (λ e. absurd (not_is node.ready (and_parts (not node.ready) (is_next after node.cursor) t).0 e)) (le_refl node.granted) (le_refl node.clock))
by_body (LeaseAsk asked) node from = rests node
by_body (LeaseGive end) node from = rests node
by_body (Prepare ballot) node from = rests node
by_body (Promise ballot vote) node from = rests node
by_body (Accept ballot view) node from = rests node
by_body (Accepted ballot) node from = rests node
by_body (Chosen view) node from = rests node
by_body (Activate view) node from = rests node

by_heard : (body : Body) (node : NodeState) (manager : ℕ) → Rises node (heard body node manager)
by_heard (LeaseGive end) node manager = rises node _ (λ e. e) (omega arith) (le_refl node.clock)
by_heard (Activate view) node manager =
    let noted : NodeState = record node { activated = raised manager view.epoch node.activated } in
    let quiet : Rises node (idle noted) = level node noted refl refl refl in
    by_if (is_greatest view.epoch node.activated) node node (installs_by_majority noted view) (rests node)
    (λ g. by_if (has_majority view.epoch noted.activated) node noted (installs noted view) quiet (λ m. installed node noted view quiet refl refl refl))
by_heard (Inv key s kind content) node manager = rests node
by_heard (Ack key s top) node manager = rests node
by_heard (Val key s) node manager = rests node
by_heard (CopyAsk after room) node manager = rests node
by_heard (CopyGive after done items) node manager = rests node
by_heard (LeaseAsk asked) node manager = rests node
by_heard (Prepare ballot) node manager = rests node
by_heard (Promise ballot vote) node manager = rests node
by_heard (Accept ballot view) node manager = rests node
by_heard (Accepted ballot) node manager = rests node
by_heard (Chosen view) node manager = rests node

by_sender : (actor : Actor) (node : NodeState) (letter : Letter) → Rises node (receives_from actor node letter)
by_sender (Manager from) node letter = by_if (is_addressed node letter.to && nat_lt from node.managers) node node (heard letter.body node from) (rests node) (λ t. by_heard letter.body node from)
by_sender (Node from) node letter = by_if (is_addressed node letter.to && ((letter.epoch == epoch_of node) && is_other node from)) node node (received letter.body node from) (rests node)
    (λ t. by_body letter.body node from)

by_limit : (o : Option Stamp) (node : NodeState) (call : CallNo) (key : List ℕ) (op : Op) (row : Row) → Rises node (at_limit o node call key op row)
by_limit None node call key op row = rests node
by_limit (Some s) node call key op row = level node _ refl refl refl

by_turn : (b : Bool) (node : NodeState) (call : CallNo) (key : List ℕ) (op : Op) (row : Row) → Rises node (at_turn b node call key op row)
by_turn false node call key op row = rests node
by_turn true node call key op row = by_limit (next_stamp (kind_of op) row.stamp node.id) node call key op row

by_state : (state : State) (node : NodeState) (call : CallNo) (key : List ℕ) (op : Op) (row : Row) → Rises node (at_state state node call key op row)
by_state State.Valid node call key op row = by_turn (act op (register_in row) 0).changed node call key op row
by_state State.Invalid node call key op row = rests node
by_state State.Write node call key op row = rests node
by_state State.Replay node call key op row = rests node
by_state State.Trans node call key op row = rests node

by_lease : (b : Bool) (node : NodeState) (call : CallNo) (key : List ℕ) (op : Op) → Rises node (at_lease b node call key op)
by_lease true node call key op = rests node
by_lease false node call key op = by_state (row_at key node.rows).state node call key op (row_at key node.rows)

pub leases_never_fall : LeasesNeverFall
leases_never_fall node (Call call key op) = by_lease (nat_lt (lease_end node) (node.clock + node.skew)) node call key op
leases_never_fall node (Receive letter) = by_sender letter.from node letter
leases_never_fall node (Resend key) = by_found (find_row key node.rows) node key _
leases_never_fall node (Replay key) = by_if node.ready node node _ (rests node) (λ t. by_found (find_row key node.rows) node key _)
leases_never_fall node (AskLease manager) = by_if (nat_lt manager node.managers) node node _ (rests node) (λ t. level node _ refl refl refl)
leases_never_fall node (AskCopy from room) = by_if (not node.ready && is_other node from) node node _ (rests node) (λ t. level node _ refl refl refl)
leases_never_fall node (Tick now) = rises node _ (λ e. e) (le_refl node.granted) (omega arith)
leases_never_fall node (Grant end) = rises node _ (λ e. e) (omega arith) (le_refl node.clock)
leases_never_fall node (Install view) = installed node node view (rests node) refl refl refl
