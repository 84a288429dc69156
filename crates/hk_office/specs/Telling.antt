-- How the group stands, as a manager tells it to who asks. Readings and ages are in milliseconds.
use Rattle.std.specs.Prelude.{ℕ, ◌+◌, ◌-◌, ◌*◌, Bool, true, false, not, ◌&&◌, nat_lt, nat_le, if◌then◌else◌, List, [], ◌∷◌, map, take, length, Option, None, Some}
use Rattle.std.specs.List.{flat_map, list_any}
use Rattle.hk_base.specs.declared.stamp.NodeId.{NodeId}
use Rattle.hk_base.specs.declared.letter.Actor.TheVariants as actors
use Rattle.hk_base.specs.declared.view.View.{View}
use Rattle.hk_fields.specs.declared.tickets.Ticket.{Ticket}
use Rattle.hk_inside.specs.declared.report.NodeSeen.{NodeSeen}
use Rattle.hk_inside.specs.declared.report.NodeState.{NodeState}
use Rattle.hk_inside.specs.declared.report.NodeState.TheVariants as states
use Rattle.hk_stage.specs.declared.stage.Stage.{Stage}
use Rattle.hk_stage.specs.declared.stage.Stage.TheVariants.{Empty, Founded, Open}
use Rattle.hk_stage.specs.Opening.{shown}
use Rattle.hk_roll.specs.Rolls.{bound}
use Rattle.hk_reports.specs.declared.kept.Came.{Came}
use Rattle.hk_reports.specs.Reports.{age}
use Rattle.hk_reports.specs.Hearing.{last_of_manager, came_ago, is_up_at, is_waiting_state}
use Rattle.hk_status.specs.declared.status.ManagerLine.{ManagerLine}
use Rattle.hk_status.specs.declared.status.NodeShown.{NodeShown}
use Rattle.hk_status.specs.declared.status.NodeShown.TheVariants.{Seated, Copying, Ready, Leaving, Gone}
use Rattle.hk_status.specs.declared.status.NodeTold.{NodeTold}
use Rattle.hk_status.specs.declared.status.NodeLine.{NodeLine}
use Rattle.hk_status.specs.declared.status.WaitLine.{WaitLine}
use Rattle.hk_status.specs.declared.status.GroupStatus.{GroupStatus}
use Rattle.hk_lease.specs.Wait.{wait}
use Rattle.hk_office.specs.declared.office.Office.{Office}
use Rattle.hk_office.specs.declared.telling.Acting.{Acting}
use Rattle.hk_office.specs.Stages.{stage_told}
use Rattle.hk_office.specs.Numbers.{numbers}
use Rattle.hk_office.specs.Marks.{is_in_view}
use Rattle.hk_office.specs.Board.{places, last_of, inside_of}

-- ---- managers

abbrev pub records_by : Option Came → Option ℕ
records_by None = None
records_by (Some c) = Some c.report.records

-- what the last report told that names a place as that of its manager
abbrev pub manager_by : Office → ℕ → ℕ → Option Came → ManagerLine
manager_by o now place came = record {
  place = place;
  inside = inside_of came;
  is_up = is_up_at now o.terms.place o.terms.lease o.reports.came place;
  age = came_ago now came;
  records = records_by came;
}

unfoldable pub manager_told : Office → ℕ → ℕ → ManagerLine
manager_told o now place = manager_by o now place (last_of_manager place o.reports.came)

-- ---- nodes

-- A process that has a number and waits has not learned its number yet.
abbrev pub state_shown : NodeState → NodeShown
state_shown states.Waiting = Seated
state_shown states.Seated = Seated
state_shown states.Copying = Copying
state_shown states.Ready = Ready
state_shown states.Leaving = Leaving

-- A node is gone of which nothing was heard for a lease.
abbrev pub node_shown : ℕ → ℕ → Option Came → NodeShown
node_shown now lease None = Gone
node_shown now lease (Some c) = if nat_le (age now c.at) lease then state_shown c.report.state else Gone

abbrev pub told_by : Option Came → Option NodeTold
told_by None = None
told_by (Some c) = Some (record { manager = c.report.manager; clients = c.report.clients; shards = c.report.shards; counts = c.report.counts })

-- what the last report of its process told
abbrev pub node_by : Office → ℕ → NodeId → Option Came → NodeLine
node_by o now node came = record {
  node = node;
  inside = inside_of came;
  state = node_shown now o.terms.lease came;
  told = told_by came;
}

abbrev pub bound_node : Office → ℕ → NodeId → Option Ticket → List NodeLine
bound_node o now node None = []
bound_node o now node (Some ticket) = node_by o now node (last_of ticket o) ∷ []

-- the line of a number, if it is bound
unfoldable pub node_told : Office → ℕ → NodeId → List NodeLine
node_told o now node = bound_node o now node (bound (actors.Node node) o.roll)

-- the members of the views, and who may join next
abbrev pub nodes_told : Office → ℕ → List View → List NodeLine
nodes_told o now views = flat_map (node_told o now) (numbers views)

-- ---- who waits for whom

abbrev pub wait_of : NodeId → NodeSeen → List WaitLine
wait_of node seen = if nat_lt 0 seen.unacknowledged then record { node = node; other = seen.node; time = seen.unacknowledged } ∷ [] else []

abbrev pub waits_by : NodeId → Option Came → List WaitLine
waits_by node None = []
waits_by node (Some c) = flat_map (wait_of node) c.report.nodes

abbrev pub bound_waits : Office → NodeId → Option Ticket → List WaitLine
bound_waits o node None = []
bound_waits o node (Some ticket) = waits_by node (last_of ticket o)

-- By what its process told last, a node waits for those that leave it unacknowledged.
unfoldable pub waits_told : Office → NodeId → List WaitLine
waits_told o node = bound_waits o node (bound (actors.Node node) o.roll)

-- ---- who has no number yet

-- within a lease it told that it waits for a number
abbrev pub is_waiting : ℕ → ℕ → Came → Bool
is_waiting now lease c = is_waiting_state c.report.state && nat_le (age now c.at) lease

abbrev pub waiting_by : ℕ → ℕ → Came → List (List ℕ)
waiting_by now lease c = if is_waiting now lease c then inside_of (Some c) ∷ [] else []

-- ---- whether the group is lost

abbrev pub is_ready_shown : NodeShown → Bool
is_ready_shown Seated = false
is_ready_shown Copying = false
is_ready_shown Ready = true
is_ready_shown Leaving = false
is_ready_shown Gone = false

abbrev pub is_ready_member : List View → NodeLine → Bool
is_ready_member views line = is_ready_shown line.state && is_in_view views line.node

-- the manager has acted for this time, and no lease runs that it granted
abbrev pub acted_for : ℕ → ℕ → Option ℕ → Bool
acted_for now time None = false
acted_for now time (Some since) = nat_le time (now - since)

abbrev pub has_acted : ℕ → ℕ → Acting → Bool
has_acted now time acting = acted_for now time acting.since && nat_lt acting.until now

-- For four leases no process told that its node is ready, and all leases have ended that the manager may have granted before
-- its process began.
abbrev pub is_quiet : Office → ℕ → Bool
is_quiet o now = nat_le (4 * o.terms.lease) (age now o.reports.ready_at) && nat_lt (1 + wait o.terms.lease) now

-- Where it is open and no member is ready, nor was in all that time, nobody has the group's data any more.
abbrev pub is_lost : Office → ℕ → Acting → List View → List NodeLine → Bool
is_lost o now acting views lines =
    nat_lt 0 (length views) && not (list_any (is_ready_member views) lines) && has_acted now (4 * o.terms.lease) acting && is_quiet o now

-- ---- all of it

abbrev pub founding_shown : Stage → Option ℕ
founding_shown Empty = None
founding_shown (Founded f) = Some f
founding_shown (Open f) = Some f

-- `name` is the group's, and `views` are those that the cores hold. Managers stand in the order of their places.
abbrev pub status_told : Office → ℕ → List ℕ → List View → Acting → GroupStatus
status_told o now name views acting = record {
  group = name;
  founding = founding_shown (shown o.opening now);
  stage = stage_told (shown o.opening now);
  lease = o.terms.lease;
  skew = o.terms.skew;
  managers = map (manager_told o now) (take o.terms.managers places);
  views = views;
  nodes = nodes_told o now views;
  waits = flat_map (waits_told o) (numbers views);
  waiting = flat_map (waiting_by now o.terms.lease) o.reports.came;
  is_lost = is_lost o now acting views (nodes_told o now views);
}
