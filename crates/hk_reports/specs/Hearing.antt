-- What a manager has heard at one moment, as its keeper wants it, by what it was told. Readings and ages are in
-- milliseconds.
use Rattle.std.specs.Prelude.{ℕ, ◌+◌, ◌/◌, min, max, Bool, true, false, ◌&&◌, ◌||◌, ◌==◌, nat_le, if◌then◌else◌, List, [], ◌∷◌, ◌++◌, map, take, slice_get, Option, None, Some}
use Rattle.std.specs.List.{filter_map, find, list_any}
use Rattle.hk_base.specs.declared.stamp.NodeId.{NodeId}
use Rattle.hk_base.specs.declared.view.View.{View}
use Rattle.hk_base.specs.View.{is_member}
use Rattle.hk_inside.specs.declared.report.NodeSeen.{NodeSeen}
use Rattle.hk_inside.specs.declared.report.NodeState.{NodeState}
use Rattle.hk_inside.specs.declared.report.NodeState.TheVariants.{Waiting, Seated, Copying, Ready, Leaving}
use Rattle.hk_keeper.specs.declared.heard.AgeTold.{AgeTold}
use Rattle.hk_keeper.specs.declared.heard.Ask.{Ask}
use Rattle.hk_keeper.specs.declared.heard.Heard.{Heard}
use Rattle.hk_keeper.specs.declared.heard.ManagerHeard.{ManagerHeard}
use Rattle.hk_keeper.specs.declared.heard.NodeHeard.{NodeHeard}
use Rattle.hk_keeper.specs.declared.heard.ShardHeard.{ShardHeard}
use Rattle.hk_keeper.specs.declared.heard.StateTold.{StateTold}
use Rattle.hk_keeper.specs.Heard.{is_within}
use Rattle.hk_reports.specs.declared.hearing.TheConstants.{PLACES}
use Rattle.hk_reports.specs.declared.kept.AskCame.{AskCame}
use Rattle.hk_reports.specs.declared.kept.Came.{Came}
use Rattle.hk_reports.specs.declared.kept.NumberKept.{NumberKept}
use Rattle.hk_reports.specs.declared.kept.Proposed.{Proposed}
use Rattle.hk_reports.specs.Reports.{ReportsState, age, number_of}

-- ---- managers

-- the places of so many managers, of 9 at most
abbrev pub places : ℕ → List ℕ
places managers = take (min managers 9) PLACES

-- the process says that it has the manager of this place
abbrev pub is_manager_at : ℕ → Option ℕ → Bool
is_manager_at place None = false
is_manager_at place (Some told) = told == place

abbrev pub is_manager : ℕ → Came → Bool
is_manager place came = is_manager_at place came.report.manager

-- the last report of the manager of a place, whichever process says so
abbrev pub last_of_manager : ℕ → List Came → Option Came
last_of_manager place came = find (is_manager place) came

abbrev pub came_ago : ℕ → Option Came → Option ℕ
came_ago now None = None
came_ago now (Some c) = Some (age now c.at)

-- *up*: this manager itself, and one that reported within half a lease
abbrev pub is_up_at : (now own lease : ℕ) → List Came → ℕ → Bool
is_up_at now own lease came place = (place == own) || is_within (came_ago now (last_of_manager place came)) (lease / 2)

abbrev pub bit : Bool → ℕ → ℕ
bit up value = if up then value else 0

-- the managers that are up, as bits: the lowest one is that of place 0
abbrev pub bits_up : (ℕ → Bool) → ℕ
bits_up up =
    bit (up 0) 1 + bit (up 1) 2 + bit (up 2) 4 + bit (up 3) 8 + bit (up 4) 16 + bit (up 5) 32 + bit (up 6) 64 +
    bit (up 7) 128 + bit (up 8) 256

abbrev pub managers_up : (now own lease : ℕ) → ReportsState → ℕ
managers_up now own lease s = bits_up (is_up_at now own lease s.came)

-- of a node that asked it in all shards, the age that a manager told
abbrev pub age_by : NodeId → Option ℕ → Option AgeTold
age_by node None = None
age_by node (Some age) = Some (record { node = node; age = age })

abbrev pub age_told : NodeSeen → Option AgeTold
age_told seen = age_by seen.node seen.age_of_ask

abbrev pub manager_by : ℕ → ℕ → Option Came → ManagerHeard
manager_by now place None = record { place = place; report = None; ages = [] }
manager_by now place (Some c) =
    record { place = place; report = Some (age now c.at); ages = filter_map age_told c.report.nodes }

-- of a manager its last report counts alone
abbrev pub manager_heard : ℕ → List Came → ℕ → ManagerHeard
manager_heard now came place = manager_by now place (last_of_manager place came)

-- ---- nodes

abbrev pub with_node : NodeId → List NodeId → List NodeId
with_node node nodes = if is_member node nodes then nodes else nodes ++ node ∷ []

abbrev pub with_nodes : List NodeId → List NodeId → List NodeId
with_nodes nodes [] = nodes
with_nodes nodes (n ∷ more) = with_nodes (with_node n nodes) more

abbrev pub with_members : List NodeId → List View → List NodeId
with_members nodes [] = nodes
with_members nodes (view ∷ views) = with_members (with_nodes nodes view.members) views

-- each node that is bound, and each member of a view, once
abbrev pub known_nodes : List View → List NodeId → List NodeId
known_nodes views bound = with_members (with_nodes [] bound) views

abbrev pub is_node_at : NodeId → Option NodeId → Bool
is_node_at node None = false
is_node_at node (Some told) = told.0 == node.0

abbrev pub is_node : NodeId → Came → Bool
is_node node came = is_node_at node came.report.node

abbrev pub state_by : ℕ → Option Came → Option StateTold
state_by now None = None
state_by now (Some c) = Some (record { state = c.report.state; age = age now c.at })

-- what the last report of a process with this number told
abbrev pub state_told : ℕ → List Came → NodeId → Option StateTold
state_told now came node = state_by now (find (is_node node) came)

-- from when on a node is silent that never asked: its number was bound, or this process began, the later one
abbrev pub silent_since : ℕ → Option ℕ → ℕ
silent_since start None = start
silent_since start (Some bound) = max start bound

abbrev pub ask_heard : ℕ → ℕ → Option AskCame → Ask
ask_heard now since None = record { age = age now since; epoch = None }
ask_heard now since (Some ask) = record { age = age now ask.at; epoch = Some ask.epoch }

abbrev pub asked_by : Option (Option AskCame) → Option AskCame
asked_by None = None
asked_by (Some ask) = ask

abbrev pub ask_in : ℕ → ℕ → NumberKept → ℕ → Ask
ask_in now start number shard = ask_heard now (silent_since start number.bound) (asked_by (slice_get number.asks shard))

-- in all eight shards
abbrev pub asks_heard : ℕ → ℕ → NumberKept → List Ask
asks_heard now start number =
    ask_in now start number 0 ∷ ask_in now start number 1 ∷ ask_in now start number 2 ∷ ask_in now start number 3 ∷
    ask_in now start number 4 ∷ ask_in now start number 5 ∷ ask_in now start number 6 ∷ ask_in now start number 7 ∷ []

abbrev pub node_by : ℕ → ℕ → List Came → NumberKept → List NodeId → NodeHeard
node_by now start came number bound =
    record {
      node = number.node;
      bound = is_member number.node bound;
      told = state_told now came number.node;
      asks = asks_heard now start number;
    }

abbrev pub node_heard : ReportsState → ℕ → List NodeId → NodeId → NodeHeard
node_heard s now bound node = node_by now s.start s.came (number_of node s.numbers) bound

-- ---- newcomers

abbrev pub is_waiting_state : NodeState → Bool
is_waiting_state Waiting = true
is_waiting_state Seated = false
is_waiting_state Copying = false
is_waiting_state Ready = false
is_waiting_state Leaving = false

abbrev pub has_none : Option NodeId → Bool
has_none None = true
has_none (Some node) = false

-- a process without a number told within a lease that it waits
abbrev pub is_newcomer : ℕ → ℕ → Came → Bool
is_newcomer now lease c = is_waiting_state c.report.state && has_none c.report.node && nat_le (age now c.at) lease

-- ---- shards

-- Of this manager's proposals those count that are upon the view that it holds.
abbrev pub proposals_by : ℕ → ℕ → Option Proposed → ℕ × ℕ
proposals_by now epoch None = (0, 0)
proposals_by now epoch (Some p) = if p.epoch == epoch then (p.count, age now p.at) else (0, 0)

abbrev pub shard_by : ℕ → View → Option Proposed → ShardHeard
shard_by now view last =
    let made = proposals_by now view.epoch last in
    record { held = view; proposals = made.0; proposed = made.1 }

-- the shards of these views, the first one of which has this number
abbrev pub shards_heard : ℕ → List Proposed → ℕ → List View → List ShardHeard
shards_heard now proposed shard [] = []
shards_heard now proposed shard (view ∷ views) =
    shard_by now view (slice_get proposed shard) ∷ shards_heard now proposed (shard + 1) views

-- ---- all of it

abbrev pub heard_by : ReportsState → (now own managers lease : ℕ) → List View → List NodeId → Heard
heard_by s now own managers lease views bound =
    record {
      clock = now;
      place = own;
      lease = lease;
      managers = map (manager_heard now s.came) (places managers);
      nodes = map (node_heard s now bound) (known_nodes views bound);
      newcomer = list_any (is_newcomer now lease) s.came;
      shards = shards_heard now s.proposed 0 views;
    }
