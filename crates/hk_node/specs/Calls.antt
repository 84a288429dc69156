-- A call at a node. The checks stand in this order: the lease, the row's state, what the operation does, the limit of
-- versions. A node that is not ready has no lease, whatever it was granted.
use Rattle.std.specs.Prelude.{ℕ, ◌+◌, List, [], ◌∷◌, Bool, true, false, Option, Some, None, nat_lt, if◌then◌else◌}
use Rattle.hk_base.specs.declared.stamp.Stamp.{Stamp}
use Rattle.hk_base.specs.declared.stamp.NodeId.{NodeId}
use Rattle.hk_base.specs.declared.stamp.Kind.{Kind}
use Rattle.hk_base.specs.declared.call.CallNo.{CallNo}
use Rattle.hk_base.specs.declared.call.State.{State}
use Rattle.hk_base.specs.declared.call.State.TheVariants.{Valid, Invalid, Write, Replay, Trans}
use Rattle.hk_base.specs.declared.call.Op.{Op}
use Rattle.hk_base.specs.declared.call.Answer.{Answer}
use Rattle.hk_base.specs.declared.call.Answer.TheVariants.{Busy, Exhausted}
use Rattle.hk_base.specs.declared.call.Why.TheVariants as Why
use Rattle.hk_base.specs.Register.{Register, act}
use Rattle.hk_base.specs.Stamp.{stamp_after, tag_of}
use Rattle.hk_key.specs.declared.row.Row.{Row}
use Rattle.hk_key.specs.Table.{begin}
use Rattle.hk_node.specs.Rows.{row_at}
use Rattle.hk_node.specs.Node.{NodeState, members_of}
use Rattle.hk_node.specs.Stepped.{Stepped, row_step}

-- Only a write is begun whatever the key holds. Every other update rests on what it found, a cas too whose tag was right.
abbrev pub kind_of : Op → Kind
kind_of Op.Read = Kind.Rmw
kind_of (Op.Write content) = Kind.Write
kind_of (Op.Cas tag content) = Kind.Rmw
kind_of (Op.Incr by) = Kind.Rmw
kind_of (Op.Decr by) = Kind.Rmw
kind_of (Op.Add content) = Kind.Rmw
kind_of (Op.Replace content) = Kind.Rmw
kind_of Op.Delete = Kind.Rmw

-- the next stamp of an update of the kind, at the node: a write steps the version by two, a read-modify-write by one
abbrev pub next_stamp : Kind → Stamp → NodeId → Option Stamp
next_stamp Kind.Write s node = stamp_after 2 s node.0
next_stamp Kind.Rmw s node = stamp_after 1 s node.0

-- the register that a row is
abbrev pub register_in : Row → Register
register_in row = record { content = row.content; tag = tag_of row.stamp }

-- the call is answered at once, and nothing changes
abbrev pub answers : NodeState → List ℕ → CallNo → Answer → Stepped
answers node key call answer = record { node = node; letters = []; told = (key, record { call = call; answer = answer }) ∷ []; installed = None }

-- by the stamp of the new update
abbrev pub at_limit : Option Stamp → NodeState → CallNo → List ℕ → Op → Row → Stepped
-- there is none: Exhausted
at_limit None node call key op row = answers node key call (Exhausted row.stamp)
-- the update begins: what it leaves, and what it will be answered, is what the operation makes of the register
at_limit (Some s) node call key op row = row_step node key (begin node.id (members_of node)
    (record { call = call; answer = (act op (register_in row) (tag_of s)).answer }) s (kind_of op) (act op (register_in row) (tag_of s)).register.content)

-- by whether the operation changes the register. Whether it does, and what it answers where it does not, does not depend
-- on the new tag.
abbrev pub at_turn : Bool → NodeState → CallNo → List ℕ → Op → Row → Stepped
-- it does not: answered at once
at_turn false node call key op row = answers node key call (act op (register_in row) 0).answer
at_turn true node call key op row = at_limit (next_stamp (kind_of op) row.stamp node.id) node call key op row

-- by the row's state
abbrev pub at_state : State → NodeState → CallNo → List ℕ → Op → Row → Stepped
at_state Valid node call key op row = at_turn (act op (register_in row) 0).changed node call key op row
-- not Valid: Busy
at_state Invalid node call key op row = answers node key call (Busy (Why.Row row.state row.stamp))
at_state Write node call key op row = answers node key call (Busy (Why.Row row.state row.stamp))
at_state Replay node call key op row = answers node key call (Busy (Why.Row row.state row.stamp))
at_state Trans node call key op row = answers node key call (Busy (Why.Row row.state row.stamp))

abbrev pub lease_end : NodeState → ℕ
lease_end node = if node.ready then node.granted else 0

-- by whether the lease may be over: by its own clock the end may be past on another one
abbrev pub at_lease : Bool → NodeState → CallNo → List ℕ → Op → Stepped
at_lease true node call key op = answers node key call (Busy (Why.Lease (lease_end node) node.clock))
at_lease false node call key op = at_state (row_at key node.rows).state node call key op (row_at key node.rows)

abbrev pub called : NodeState → CallNo → List ℕ → Op → Stepped
called node call key op = at_lease (nat_lt (lease_end node) (node.clock + node.skew)) node call key op
