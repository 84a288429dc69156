-- The letters that a step of a row sends.
use Rattle.std.specs.Prelude.{ℕ, List, [], ◌∷◌, map, Bool, true, Option, Some, None, not, ◌&&◌, ◌||◌, ◌==◌}
use Rattle.std.specs.List.{filter}
use Rattle.hk_base.specs.declared.stamp.NodeId.{NodeId}
use Rattle.hk_base.specs.declared.view.View.{View}
use Rattle.hk_base.specs.declared.letter.Actor.TheVariants.{Node}
use Rattle.hk_base.specs.declared.letter.Body.{Body}
use Rattle.hk_base.specs.declared.letter.Letter.{Letter}
use Rattle.hk_key.specs.declared.acks.Ack.{Ack}
use Rattle.hk_key.specs.declared.row.Pending.{Pending}
use Rattle.hk_key.specs.declared.row.Row.{Row}
use Rattle.hk_key.specs.declared.out.Aim.{Aim}
use Rattle.hk_key.specs.declared.out.Aim.TheVariants.{One, Others, NotAcked}
use Rattle.hk_key.specs.declared.out.What.{What}
use Rattle.hk_key.specs.declared.out.Sending.{Sending}
use Rattle.hk_key.specs.Notes.{is_noted}
use Rattle.hk_node.specs.Node.{NodeState, epoch_of, members_of, others}

-- the same from the node to each of these, in their order, under the node's epoch
abbrev pub letters_to : NodeState → Body → List NodeId → List Letter
letters_to node body to = map (λ n. record { epoch = epoch_of node; from = Node node.id; to = Node n; body = body }) to

-- INV of the pending update. A row that sends it has one; of a row without one it would be the row's own.
abbrev pub pending_body : List ℕ → Row → Option Pending → Body
pending_body key row None = Body.Inv key row.stamp row.kind row.content
pending_body key row (Some p) = Body.Inv key p.stamp p.kind p.content

abbrev pub body_of : List ℕ → Row → What → Body
body_of key row What.InvRow = Body.Inv key row.stamp row.kind row.content
body_of key row What.InvPending = pending_body key row row.pending
body_of key row (What.Ack s top) = Body.Ack key s top
body_of key row (What.Val s) = Body.Val key s

abbrev pub notes_in : Option Pending → List Ack
notes_in None = []
notes_in (Some p) = p.acks

abbrev pub addressees : NodeState → Row → Aim → List NodeId
addressees node row (One to) = to ∷ []
addressees node row Others = others node.id (members_of node)
addressees node row NotAcked = filter (λ member. not (is_noted member (notes_in row.pending))) (others node.id (members_of node))

-- A node's number and view: no more of it matters to what it sends.
abbrev pub at_view : NodeId → View → NodeState
at_view id view = record { id = id; view = Some view; ready = true; cursor = None; granted = 0; clock = 1; skew = 0; managers = 0; ends = []; activated = []; rows = [] }

-- whether a member is one of the others, or of the others that are not noted
abbrev pub is_aimed : Bool → NodeId → Row → NodeId → Bool
is_aimed all me row member = not (member.0 == me.0) && (all || not (is_noted member (notes_in row.pending)))

-- what is sent of the row as it is after the step, in rising order of the addressees
abbrev pub sent : NodeState → List ℕ → Row → Option Sending → List Letter
sent node key row None = []
sent node key row (Some sending) = letters_to node (body_of key row sending.what) (addressees node row sending.aim)
