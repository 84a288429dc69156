-- What a letter shows that no letter would in a group whose nodes all run as they began.
--
-- Nobody begins two updates under one stamp: what comes under the row's own stamp is the row's own update.
--
-- A row becomes Valid once every member of the view has acknowledged just its stamp, and an update begins only at a Valid row, by the next stamp of its kind: a write
-- steps the version by two, a read-modify-write by one (Hermes, "Read-Modify-Writes"). The stamp of a row never falls. So where a row is Valid, and the view is the one in
-- which the group was founded, an INV above the row has a next stamp: the node where it began had just this row. Where its version is lower, that node had an older
-- row, and has forgotten one that it acknowledged; where it is higher, this node has.
use Rattle.std.specs.Prelude.{ℕ, ◌+◌, Bool, true, false, Option, None, Some, nat_eq, nat_lt, ◌==◌, ◌&&◌, if◌then◌else◌}
use Rattle.std.specs.Cmp.Lexicographic.{pointwise}
use Rattle.hk_base.specs.declared.stamp.NodeId.{NodeId}
use Rattle.hk_base.specs.declared.call.Content.{Content}
use Rattle.hk_base.specs.declared.stamp.Stamp.{Stamp}
use Rattle.hk_base.specs.declared.stamp.Kind.{Kind}
use Rattle.hk_base.specs.declared.letter.Actor.{Actor}
use Rattle.hk_base.specs.declared.letter.Actor.TheVariants.{Node, Manager}
use Rattle.hk_base.specs.declared.letter.Body.{Body}
use Rattle.hk_base.specs.declared.letter.Body.TheVariants.{Inv}
use Rattle.hk_base.specs.declared.letter.Letter.{Letter}
use Rattle.hk_base.specs.Stamp.{tag_of}
use Rattle.hk_base.specs.View.{is_member}
use Rattle.hk_key.specs.declared.row.Row.{Row}
use Rattle.hk_node.specs.Copies.{is_valid}
use Rattle.hk_node.specs.Node.{NodeState, epoch_of, members_of}
use Rattle.hk_node.specs.Rows.{row_at}
use Rattle.hk_locked.specs.declared.doubt.Doubt.{Doubt}
use Rattle.hk_locked.specs.declared.doubt.Doubt.TheVariants.{Forgot, ForgotHere, Stranger}

-- the version of the next update of the kind
abbrev pub next_version : Kind → ℕ → ℕ
next_version Kind.Write version = version + 2
next_version Kind.Rmw version = version + 1

-- the node at which an update of this stamp began has forgotten, which may be the one that takes the letter
abbrev pub forgot_by : NodeId → Stamp → Doubt
forgot_by me stamp = if stamp.node == me.0 then ForgotHere else Forgot (record { 0 = stamp.node })

abbrev pub is_same_kind : Kind → Kind → Bool
is_same_kind Kind.Write Kind.Write = true
is_same_kind Kind.Rmw Kind.Rmw = true
is_same_kind a b = false

abbrev pub is_same_content : Option Content → Option Content → Bool
is_same_content (Some a) (Some b) = (a.flags == b.flags) && pointwise nat_eq a.bytes b.bytes
is_same_content None None = true
is_same_content a b = false

-- an INV under the row's own stamp
abbrev pub by_update : NodeId → Row → Stamp → Kind → Option Content → Option Doubt
by_update me row stamp kind content =
    if is_same_kind row.kind kind && is_same_content row.content content then None else Some (forgot_by me stamp)

-- an update of this stamp began, whose next version would be this one
abbrev pub by_version : NodeId → ℕ → Stamp → Option Doubt
by_version me next stamp =
    if nat_lt stamp.version next then Some (forgot_by me stamp)
    else if nat_lt next stamp.version then Some ForgotHere
    else None

-- An INV comes where the key has this row. One below the row shows nothing, nor does one above a row that is not Valid.
abbrev pub at_row : NodeId → Row → Stamp → Kind → Option Content → Option Doubt
at_row me row stamp kind content =
    if tag_of stamp == tag_of row.stamp then by_update me row stamp kind content
    else if is_valid row.state && nat_lt (tag_of row.stamp) (tag_of stamp)
    then by_version me (next_version kind row.stamp.version) stamp
    else None

-- by what the letter holds
abbrev pub in_body : NodeId → Body → NodeState → Option Doubt
in_body me (Inv key stamp kind content) node = at_row me (row_at key node.rows) stamp kind content
in_body me body node = None

-- by its sender: a node that is no member belongs to a group of more nodes
abbrev pub by_sender : NodeId → Actor → Body → NodeState → Option Doubt
by_sender me (Node from) body node = if is_member from (members_of node) then in_body me body node else Some (Stranger from)
by_sender me (Manager number) body node = None

-- A letter comes to the node of this number. Only in the view of the founding is anything shown, whose epoch is 1.
abbrev pub doubt_in : NodeId → NodeState → Letter → Option Doubt
doubt_in me node letter =
    if (letter.epoch == 1) && (epoch_of node == 1) then by_sender me letter.from letter.body node else None
