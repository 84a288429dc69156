-- The step of a world for each event: the next world and what is shown, or a refusal. The checks stand in the order in which
-- a definition makes them.
use Rattle.std.specs.Prelude.{ℕ, ◌+◌, List, [], ◌∷◌, ◌++◌, map, length, Bool, true, false, Option, Some, None, Result, Ok, Err, not, nat_lt, nat_le, ◌&&◌, ◌||◌, ◌==◌, if◌then◌else◌}
use Rattle.std.specs.Option.{option_map}
use Rattle.std.specs.List.{list_any, filter, find}
use Rattle.hk_base.specs.declared.stamp.NodeId.{NodeId}
use Rattle.hk_base.specs.declared.call.CallNo.{CallNo}
use Rattle.hk_base.specs.declared.call.Op.{Op}
use Rattle.hk_base.specs.declared.call.Reply.{Reply}
use Rattle.hk_base.specs.declared.view.View.{View}
use Rattle.hk_base.specs.declared.view.Change.{Change}
use Rattle.hk_base.specs.declared.view.Change.TheVariants.{Drop, Add}
use Rattle.hk_base.specs.declared.letter.Actor.{Actor}
use Rattle.hk_base.specs.declared.letter.Actor.TheVariants.{Node, Manager}
use Rattle.hk_base.specs.declared.letter.Letter.{Letter}
use Rattle.hk_clocks.specs.declared.fault.ClockFault.{ClockFault}
use Rattle.hk_clocks.specs.Clocks.{ClockState}
use Rattle.hk_clocks.specs.Steps.{ClockEvent, clock_step, greatest_clock}
use Rattle.hk_manager.specs.declared.event.ManagerEvent.{ManagerEvent}
use Rattle.hk_manager.specs.declared.fault.ManagerFault.{ManagerFault}
use Rattle.hk_manager.specs.Manager.{ManagerState}
use Rattle.hk_manager.specs.Steps.{ManagerStepped, manager_step, manager_ticks}
use Rattle.hk_node.specs.Node.{NodeState, epoch_of}
use Rattle.hk_base.specs.View.{is_member}
use Rattle.hk_node.specs.Made.{joiner}
use Rattle.hk_node.specs.Stepped.{Stepped, replies_of}
use Rattle.hk_node.specs.Report.{report}
use Rattle.hk_node.specs.Calls.{called}
use Rattle.hk_node.specs.Copies.{asks_copy}
use Rattle.hk_node.specs.Steps.{receives, resent, replayed, asks_lease, installs, ticks, grants}
use Rattle.hk_event.specs.declared.event.Event.{Event}
use Rattle.hk_event.specs.declared.event.Event.TheVariants.{Call, Take, Tick, TickAll, Crash, Resend, Replay, Copy, Start, Agree, Install, Lease, AskLease, Propose, Activate}
use Rattle.hk_event.specs.declared.refused.Refused.{Refused}
use Rattle.hk_event.specs.declared.refused.Refused.TheVariants.{NoActor, Crashed, NoLetter, Skew, ClockFalls, LeaseRuns, Managed, NoView, NotMember, Behind, NoSuchMember, LastMember, Full, NoNumbers, NotPast, Started}
use Rattle.hk_world.specs.declared.process.Process.{Process}
use Rattle.hk_world.specs.declared.process.ManagerProcess.{ManagerProcess}
use Rattle.hk_world.specs.declared.shown.Shown.{Shown}
use Rattle.hk_world.specs.World.{WorldState, process_at, put_process, manager_at, put_manager, clocks_of, paces_by, numbered, last_view}

-- An accepted event: the world after it, the calls that are answered with their keys, and what is shown.
pub record Accepted : Type 0 where
  pub world : WorldState
  pub told : List (List ℕ × Reply)
  pub shown : Shown

-- the node that acted, if one did
abbrev pub acting_of : Accepted → Option NodeId
acting_of a = option_map (λ acted. acted.node) a.shown.acted

-- nothing is shown
abbrev pub nothing : Shown
nothing = record { call = None; view = None; chosen = None; installed = None; first_letter = 0; letters = []; replies = []; acted = None }

-- no node acts
abbrev pub aside : WorldState → Shown → Result Accepted Refused
aside world shown = Ok (record { world = world; told = []; shown = shown })

-- the number of the first of these letters, 0 where there are none
abbrev pub first_number : List Letter → List Letter → ℕ
first_number sent [] = 0
first_number sent (letter ∷ letters) = length sent + 1

-- the view that a step installed
abbrev pub view_of : Option ℕ → NodeState → Option View
view_of None node = None
view_of (Some epoch) node = node.view

abbrev pub installer_of : Option ℕ → NodeId → Option NodeId
installer_of None id = None
installer_of (Some epoch) id = Some id

-- a live node's step: its letters are behind all others
abbrev pub with_step : WorldState → NodeId → Stepped → WorldState
with_step world id stepped = record world {
  processes = put_process id (record { node = stepped.node; crashed = false }) world.processes;
  letters = world.letters ++ stepped.letters;
}

abbrev pub shown_of : WorldState → NodeId → NodeState → Stepped → Option CallNo → Shown
shown_of world id node stepped call = record {
  call = call;
  view = view_of stepped.installed stepped.node;
  chosen = None;
  installed = installer_of stepped.installed id;
  first_letter = first_number world.letters stepped.letters;
  letters = stepped.letters;
  replies = replies_of stepped;
  acted = Some (record { node = id; report = report node stepped.node });
}

-- the step that the node makes, of a call if it is one
abbrev pub acts_for : WorldState → NodeId → Option CallNo → NodeState → Stepped → Accepted
acts_for world id call node stepped = record { world = with_step world id stepped; told = stepped.told; shown = shown_of world id node stepped call }

abbrev pub acts : WorldState → NodeId → NodeState → Stepped → Result Accepted Refused
acts world id node stepped = Ok (acts_for world id None node stepped)

-- by whether the process has crashed
abbrev pub running_at : Bool → NodeState → (NodeState → Result Accepted Refused) → Result Accepted Refused
running_at true node step = Err Crashed
running_at false node step = step node

-- the step of a live node
abbrev pub live_at : Option Process → (NodeState → Result Accepted Refused) → Result Accepted Refused
live_at None step = Err NoActor
live_at (Some process) step = running_at process.crashed process.node step

abbrev pub live : WorldState → NodeId → (NodeState → Result Accepted Refused) → Result Accepted Refused
live world id step = live_at (process_at id world.processes) step

-- ---- a manager's step
-- why a manager does not make a step; none is for want of memory
abbrev pub manager_refusal : ManagerFault → Refused
manager_refusal (ManagerFault.Behind held) = Behind held
manager_refusal ManagerFault.NoSuchMember = NoSuchMember
manager_refusal ManagerFault.LastMember = LastMember
manager_refusal ManagerFault.Full = Full
manager_refusal ManagerFault.NoNumbers = NoNumbers
manager_refusal (ManagerFault.NotPast node end) = NotPast node end
manager_refusal ManagerFault.Memory = NoActor

-- A view that a manager holds is learned where no view of its epoch or of a greater one was.
abbrev pub learned : List View → View → List View
learned views held = if nat_lt (last_view views).epoch held.epoch then views ++ held ∷ [] else views

-- a live manager's step: its letters are behind all others
abbrev pub with_manager_step : WorldState → ℕ → ManagerStepped → WorldState
with_manager_step world m stepped = record world {
  managers = put_manager m (record { manager = stepped.manager; crashed = false }) world.managers;
  letters = world.letters ++ stepped.letters;
  views = learned world.views stepped.manager.held;
}

-- the view that the manager now holds, where that is another one than before
abbrev pub held_of : Option ℕ → ManagerState → Option View
held_of None manager = None
held_of (Some epoch) manager = Some manager.held

abbrev pub chooser_of : Option ℕ → ℕ → Option ℕ
chooser_of None m = None
chooser_of (Some epoch) m = Some m

-- no node acts
abbrev pub manager_shown : WorldState → ℕ → ManagerStepped → Shown
manager_shown world m stepped = record nothing {
  view = held_of stepped.chosen stepped.manager;
  chosen = chooser_of stepped.chosen m;
  first_letter = first_number world.letters stepped.letters;
  letters = stepped.letters;
}

abbrev pub manager_acts : WorldState → ℕ → Result ManagerStepped ManagerFault → Result Accepted Refused
manager_acts world m (Ok stepped) = aside (with_manager_step world m stepped) (manager_shown world m stepped)
manager_acts world m (Err fault) = Err (manager_refusal fault)

-- by whether the process has crashed
abbrev pub managing_at : Bool → ManagerState → (ManagerState → Result Accepted Refused) → Result Accepted Refused
managing_at true manager step = Err Crashed
managing_at false manager step = step manager

-- the step of a live manager
abbrev pub live_manager_at : Option ManagerProcess → (ManagerState → Result Accepted Refused) → Result Accepted Refused
live_manager_at None step = Err NoActor
live_manager_at (Some process) step = managing_at process.crashed process.manager step

abbrev pub live_manager : WorldState → ℕ → (ManagerState → Result Accepted Refused) → Result Accepted Refused
live_manager world m step = live_manager_at (manager_at m world.managers) step

abbrev pub manages : WorldState → ℕ → ManagerEvent → Result Accepted Refused
manages world m event = live_manager world m (λ manager. manager_acts world m (manager_step manager event))

-- the step of a live actor, a node's or a manager's
abbrev pub live_actor : WorldState → Actor → (NodeId → NodeState → Result Accepted Refused) → (ℕ → ManagerState → Result Accepted Refused) → Result Accepted Refused
live_actor world (Node id) step by_manager = live world id (step id)
live_actor world (Manager m) step by_manager = live_manager world m (by_manager m)

-- ---- calls and letters
abbrev pub calls_at : WorldState → NodeId → List ℕ → Op → NodeState → Result Accepted Refused
calls_at world id key op node =
    let call : CallNo = record { 0 = world.calls + 1 } in
    let stepped = called node call key op in
    Ok (record (acts_for world id (Some call) node stepped) { world = record (with_step world id stepped) { calls = world.calls + 1 } })

-- a letter is taken by its addressee, whoever sent it and however often it was taken
abbrev pub takes : WorldState → Option Letter → Result Accepted Refused
takes world None = Err NoLetter
takes world (Some letter) = live_actor world letter.to (λ id node. acts world id node (receives node letter)) (λ m manager. manager_acts world m (manager_step manager (ManagerEvent.Receive letter)))

-- ---- clocks
-- Why clocks stay as they are. A live actor has a clock, and one that starts has none, so the other faults do not come.
abbrev pub clock_refusal : ClockFault → Refused
clock_refusal (ClockFault.ClockFalls clock) = ClockFalls clock
clock_refusal (ClockFault.Skew to other) = Skew to other
clock_refusal ClockFault.NotLive = NoActor
clock_refusal ClockFault.Live = NoActor
clock_refusal ClockFault.Memory = NoActor

-- where the clocks of all let it rise, a node's clock is `to`
abbrev pub ticked_by : Result ClockState ClockFault → WorldState → NodeId → ℕ → NodeState → Result Accepted Refused
ticked_by (Ok clocks) world id to node = Ok (record (acts_for world id None node (ticks node to)) { world = record (with_step world id (ticks node to)) { paces = clocks.paces } })
ticked_by (Err fault) world id to node = Err (clock_refusal fault)

abbrev pub ticks_at : WorldState → ℕ → NodeId → NodeState → Result Accepted Refused
ticks_at world to id node = ticked_by (clock_step (clocks_of world) (ClockEvent.Tick (Node id) to)) world id to node

-- and a manager's
abbrev pub manager_ticked_by : Result ClockState ClockFault → WorldState → ℕ → ℕ → ManagerState → Result Accepted Refused
manager_ticked_by (Ok clocks) world m to manager =
    aside (record world { managers = put_manager m (record { manager = (manager_ticks manager to).manager; crashed = false }) world.managers; paces = clocks.paces }) nothing
manager_ticked_by (Err fault) world m to manager = Err (clock_refusal fault)

abbrev pub manager_ticks_at : WorldState → ℕ → ℕ → ManagerState → Result Accepted Refused
manager_ticks_at world to m manager = manager_ticked_by (clock_step (clocks_of world) (ClockEvent.Tick (Manager m) to)) world m to manager

abbrev pub is_live : NodeId × Process → Bool
is_live p = not p.1.crashed

abbrev pub process_ticked : ℕ → NodeId × Process → NodeId × Process
process_ticked to p = (p.0, if is_live p then record p.1 { node = (ticks p.1.node to).node } else p.1)

abbrev pub manager_ticked : ℕ → ManagerProcess → ManagerProcess
manager_ticked to p = if not p.crashed then record p { manager = (manager_ticks p.manager to).manager } else p

-- where they may rise, all clocks of live actors are `to`
abbrev pub all_ticked_by : Result ClockState ClockFault → WorldState → ℕ → Result Accepted Refused
all_ticked_by (Ok clocks) world to =
    aside (record world { processes = map (process_ticked to) world.processes; managers = map (manager_ticked to) world.managers; paces = clocks.paces }) nothing
all_ticked_by (Err fault) world to = Err (clock_refusal fault)

abbrev pub all_tick : WorldState → ℕ → Result Accepted Refused
all_tick world to = all_ticked_by (clock_step (clocks_of world) (ClockEvent.TickAll to)) world to

-- ---- crashes and starts
abbrev pub crashes_at : WorldState → NodeId → NodeState → Result Accepted Refused
crashes_at world id node =
    aside (record world { processes = put_process id (record { node = node; crashed = true }) world.processes; paces = paces_by world (ClockEvent.Stop (Node id)) }) nothing

abbrev pub manager_crashes_at : WorldState → ℕ → ManagerState → Result Accepted Refused
manager_crashes_at world m manager =
    aside (record world { managers = put_manager m (record { manager = manager; crashed = true }) world.managers; paces = paces_by world (ClockEvent.Stop (Manager m)) }) nothing

-- a joiner's clock starts at the greatest of a live actor, or at 1
abbrev pub joining : WorldState → NodeId → Process
joining world id = record { node = (ticks (joiner id world.skew (length world.managers)) (greatest_clock 1 world.paces)).node; crashed = false }

-- the last view has it as a member, or one that a manager holds, also where that manager has crashed
abbrev pub may_join : WorldState → NodeId → Bool
may_join world id = is_member id (last_view world.views).members || list_any (λ p. is_member id p.manager.held.members) world.managers

abbrev pub starts_at : Option Process → WorldState → NodeId → Result Accepted Refused
starts_at (Some process) world id = Err Started
starts_at None world id =
    if may_join world id
    then aside (record world { processes = put_process id (joining world id) world.processes; paces = paces_by world (ClockEvent.Start (Node id) (greatest_clock 1 world.paces)) }) nothing
    else Err NotMember

-- ---- views and leases of a group without managers
-- a group that has managers is not told its views and leases from outside
abbrev pub unmanaged : List ManagerProcess → Result Accepted Refused → Result Accepted Refused
unmanaged [] answer = answer
unmanaged (p ∷ managers) answer = Err Managed

abbrev pub agreed_on : WorldState → View → Result Accepted Refused
agreed_on world view = aside (record world { views = world.views ++ view ∷ [] }) (record nothing { view = Some view })

-- A change drops one member, or adds the node of the next number. A number that was given is not given again.
abbrev pub agrees : WorldState → View → Change → Result Accepted Refused
agrees world view (Drop id) =
    if is_member id view.members
    then (if length view.members == 1 then Err LastMember
    else agreed_on world (record { epoch = view.epoch + 1; members = filter (λ m. not (m.0 == id.0)) view.members; next = view.next }))
    else Err NoSuchMember
agrees world view Add =
    if nat_le 16 (length view.members) then Err Full
    else (if nat_le 65536 view.next then Err NoNumbers
    else agreed_on world (record { epoch = view.epoch + 1; members = view.members ++ record { 0 = view.next } ∷ []; next = view.next + 1 }))

-- the node is a member of an agreed view of a lower epoch
abbrev pub was_member : List View → ℕ → NodeId → Bool
was_member views epoch id = list_any (λ view. nat_lt view.epoch epoch && is_member id view.members) views

-- A live node that an agreed view of a lower epoch had, and that this view leaves out, may still have a lease.
abbrev pub may_run : List View → View → NodeId × Process → Bool
may_run views view p =
    is_live p && (was_member views view.epoch p.0 && (not (is_member p.0 view.members) && nat_le (p.1.node.clock + p.1.node.skew) p.1.node.granted))

-- THE GUARD: a view is installed only where no such lease may run. The first such node is told.
abbrev pub guarded_by : Option (NodeId × Process) → WorldState → NodeId → NodeState → View → Result Accepted Refused
guarded_by None world id node view = acts world id node (installs node view)
guarded_by (Some p) world id node view = Err (LeaseRuns p.0 p.1.node.granted)

abbrev pub installs_at : Option View → WorldState → NodeId → NodeState → Result Accepted Refused
installs_at None world id node = Err NoView
installs_at (Some view) world id node =
    if is_member id view.members
    then (if nat_lt (epoch_of node) view.epoch then guarded_by (find (may_run world.views view) world.processes) world id node view
    else Err (Behind (epoch_of node)))
    else Err NotMember

-- only a member of the last agreed view is granted a lease
abbrev pub leases_at : WorldState → NodeId → ℕ → NodeState → Result Accepted Refused
leases_at world id end node = if is_member id (last_view world.views).members then acts world id node (grants node end) else Err NotMember

-- ---- the table
abbrev pub world_step : WorldState → Event → Result Accepted Refused
world_step world (Call id key op) = live world id (calls_at world id key op)
world_step world (Take letter) = takes world (numbered letter world.letters)
world_step world (Tick actor to) = live_actor world actor (ticks_at world to) (manager_ticks_at world to)
world_step world (TickAll to) = all_tick world to
world_step world (Crash actor) = live_actor world actor (crashes_at world) (manager_crashes_at world)
world_step world (Resend id key) = live world id (λ node. acts world id node (resent node key))
world_step world (Replay id key) = live world id (λ node. acts world id node (replayed node key))
world_step world (Copy id from room) = live world id (λ node. acts world id node (asks_copy node from room))
world_step world (Start id) = starts_at (process_at id world.processes) world id
world_step world (Agree change) = unmanaged world.managers (agrees world (last_view world.views) change)
world_step world (Install id epoch) = unmanaged world.managers (live world id (λ node. installs_at (numbered epoch world.views) world id node))
world_step world (Lease id end) = unmanaged world.managers (live world id (leases_at world id end))
-- a manager that is not there is asked for nothing
world_step world (AskLease id manager) = live world id (λ node. acts world id node (asks_lease node manager))
world_step world (Propose manager base change) = manages world manager (ManagerEvent.Propose base change)
world_step world (Activate manager) = manages world manager ManagerEvent.Activate
