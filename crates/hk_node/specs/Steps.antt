-- The step of a node for each event.
use Rattle.std.specs.Prelude.{ℕ, List, [], ◌∷◌, map, max, Bool, false, Option, Some, None, nat_lt, ◌&&◌, ◌==◌, if◌then◌else◌}
use Rattle.std.specs.List.{flat_map}
use Rattle.hk_base.specs.declared.stamp.NodeId.{NodeId}
use Rattle.hk_base.specs.declared.view.View.{View}
use Rattle.hk_base.specs.declared.letter.Actor.{Actor}
use Rattle.hk_base.specs.declared.letter.Actor.TheVariants.{Node, Manager}
use Rattle.hk_base.specs.declared.letter.Letter.{Letter}
use Rattle.hk_base.specs.declared.letter.Body.{Body}
use Rattle.hk_base.specs.declared.letter.Body.TheVariants.{Inv, Ack, Val, CopyAsk, CopyGive, LeaseAsk, LeaseGive, Prepare, Promise, Accept, Accepted, Chosen, Activate}
use Rattle.hk_lease.specs.Ends.{granted_end}
use Rattle.hk_key.specs.declared.row.Row.{Row}
use Rattle.hk_key.specs.Table.{Done, on_inv, on_ack, on_val, on_view, resend, replay, still}
use Rattle.hk_node.specs.declared.event.NodeEvent.{NodeEvent}
use Rattle.hk_node.specs.declared.event.NodeEvent.TheVariants.{Call, Receive, Resend, Replay, AskLease, AskCopy, Tick, Grant, Install}
use Rattle.hk_node.specs.Rows.{find_row, row_at}
use Rattle.hk_node.specs.Node.{NodeState, epoch_of, members_of, is_other}
use Rattle.hk_base.specs.View.{is_member}
use Rattle.hk_node.specs.Heard.{raised, is_greatest, has_majority}
use Rattle.hk_node.specs.Sends.{sent}
use Rattle.hk_node.specs.Stepped.{Stepped, idle, row_step, told_of}
use Rattle.hk_node.specs.Calls.{called}
use Rattle.hk_node.specs.Copies.{asks_copy, gives_copy, takes_copy}

-- a step of a row that is there; where there is none, nothing
abbrev pub on_found : Option Row → NodeState → List ℕ → (Row → Done) → Stepped
on_found None node key step = idle node
on_found (Some row) node key step = row_step node key (step row)

abbrev pub resent : NodeState → List ℕ → Stepped
resent node key = on_found (find_row key node.rows) node key resend

-- only a ready node replays
abbrev pub replayed : NodeState → List ℕ → Stepped
replayed node key = if node.ready then on_found (find_row key node.rows) node key (replay node.id (members_of node)) else idle node

-- the step of a row when its node installs a view
abbrev pub viewed : NodeState → List ℕ × Row → Done
viewed node r = on_view node.id (members_of node) r.1

-- All rows make the step. The letters are of the new epoch.
abbrev pub installed_in : NodeState → ℕ → Stepped
installed_in node epoch = record {
  node = record node { rows = map (λ r. (r.0, (viewed node r).row)) node.rows };
  letters = flat_map (λ r. sent node r.0 (viewed node r).row (viewed node r).out.send) node.rows;
  told = flat_map (λ r. told_of r.0 (viewed node r).out.reply) node.rows;
  installed = Some epoch;
}

-- A node installs a later view that has it as a member, and no other. Epochs may be skipped.
abbrev pub installs : NodeState → View → Stepped
installs node view =
    if nat_lt (epoch_of node) view.epoch && is_member node.id view.members
    then installed_in (record node { view = Some view }) view.epoch
    else idle node

-- ---- managers
-- A manager granted an end. The greatest end of each is kept, and the node's lease ends at the greatest that a majority granted it
-- at least.
abbrev pub granted_by : NodeState → ℕ → ℕ → Stepped
granted_by node manager end =
    let ends = raised manager end node.ends in
    idle (record node { granted = max node.granted (granted_end ends); ends = ends })

-- A view that a majority activated is installed.
abbrev pub installs_by_majority : NodeState → View → Stepped
installs_by_majority node view = if has_majority view.epoch node.activated then installs node view else idle node

-- A manager activated a view. Only the ACTIVATEs of the greatest epoch that came are kept.
abbrev pub activated_by : NodeState → ℕ → View → Stepped
activated_by node manager view =
    if is_greatest view.epoch node.activated
    then installs_by_majority (record node { activated = raised manager view.epoch node.activated }) view
    else idle node

-- A manager grants leases and activates views. A node takes nothing else from one.
abbrev pub heard : Body → NodeState → ℕ → Stepped
heard (LeaseGive end) node manager = granted_by node manager end
heard (Activate view) node manager = activated_by node manager view
heard body node manager = idle node

-- A manager that is there is asked for a lease, and told the node's clock.
abbrev pub asks_lease : NodeState → ℕ → Stepped
asks_lease node manager =
    if nat_lt manager node.managers
    then record { node = node; letters = record { epoch = epoch_of node; from = Node node.id; to = Manager manager; body = LeaseAsk node.clock } ∷ []; told = []; installed = None }
    else idle node

-- ---- letters
-- A letter of a node that is admitted, by its body. A node takes no letter of leases, of Paxos or of views from another.
abbrev pub received : Body → NodeState → NodeId → Stepped
received (Inv key s kind content) node from = row_step node key (on_inv (row_at key node.rows) from s kind content)
received (Ack key s top) node from = on_found (find_row key node.rows) node key (λ row. on_ack node.id (members_of node) row from s top)
received (Val key s) node from = on_found (find_row key node.rows) node key (λ row. still (on_val row s))
received (CopyAsk after room) node from = gives_copy node from after room
received (CopyGive after done items) node from = takes_copy node after done items
received (LeaseAsk asked) node from = idle node
received (LeaseGive end) node from = idle node
received (Prepare ballot) node from = idle node
received (Promise ballot vote) node from = idle node
received (Accept ballot view) node from = idle node
received (Accepted ballot) node from = idle node
received (Chosen view) node from = idle node
received (Activate view) node from = idle node

abbrev pub is_addressed : NodeState → Actor → Bool
is_addressed node (Node to) = to.0 == node.id.0
is_addressed node (Manager to) = false

-- A letter is admitted where it is addressed to the node, and comes from a manager that is there, or is of the node's epoch and
-- comes from another member of its view. Every other is dropped.
abbrev pub receives_from : Actor → NodeState → Letter → Stepped
receives_from (Manager from) node letter = if is_addressed node letter.to && nat_lt from node.managers then heard letter.body node from else idle node
receives_from (Node from) node letter =
    if is_addressed node letter.to && ((letter.epoch == epoch_of node) && is_other node from)
    then received letter.body node from
    else idle node

abbrev pub receives : NodeState → Letter → Stepped
receives node letter = receives_from letter.from node letter

-- a clock and the end of a lease only rise
abbrev pub ticks : NodeState → ℕ → Stepped
ticks node now = idle (record node { clock = max node.clock now })

abbrev pub grants : NodeState → ℕ → Stepped
grants node end = idle (record node { granted = max node.granted end })

abbrev pub node_step : NodeState → NodeEvent → Stepped
node_step node (Call call key op) = called node call key op
node_step node (Receive letter) = receives node letter
node_step node (Resend key) = resent node key
node_step node (Replay key) = replayed node key
node_step node (AskLease manager) = asks_lease node manager
node_step node (AskCopy from room) = asks_copy node from room
node_step node (Tick now) = ticks node now
node_step node (Grant end) = grants node end
node_step node (Install view) = installs node view
