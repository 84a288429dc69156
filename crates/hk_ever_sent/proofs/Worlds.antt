-- The letters of a world keep the limit of a batch, since those of each step do.
use Rattle.std.proofs.Common.{◌≡◌, ◌+◌, ◌++◌, ◌==◌, ℕ, List, [], ◌∷◌, length, Bool, true, false, if◌then◌else◌, nat_lt, nat_le, Option, Some, None, Result, Ok, Err, refl}
use Rattle.std.specs.Prelude.{⊤}
use Rattle.std.specs.List.{AllByRecursion, find}
use Rattle.hk_base.specs.declared.stamp.NodeId.{NodeId}
use Rattle.hk_base.specs.declared.view.View.{View}
use Rattle.hk_base.specs.declared.view.Change.{Change}
use Rattle.hk_base.specs.declared.view.Change.TheVariants.{Drop, Add}
use Rattle.hk_base.specs.declared.letter.Actor.{Actor}
use Rattle.hk_base.specs.declared.letter.Actor.TheVariants.{Node, Manager}
use Rattle.hk_base.specs.declared.letter.Letter.{Letter}
use Rattle.hk_clocks.specs.declared.fault.ClockFault.{ClockFault}
use Rattle.hk_clocks.specs.Clocks.{ClockState}
use Rattle.hk_clocks.specs.Steps.{clock_step}
use Rattle.hk_clocks.specs.Steps.{ClockEvent}
use Rattle.hk_manager.specs.declared.event.ManagerEvent.{ManagerEvent}
use Rattle.hk_manager.specs.declared.event.ManagerEvent.TheVariants as ManagerEvent
use Rattle.hk_manager.specs.declared.fault.ManagerFault.{ManagerFault}
use Rattle.hk_manager.specs.Manager.{ManagerState}
use Rattle.hk_manager.specs.Steps.{ManagerStepped, manager_step}
use Rattle.hk_manager.specs.Laws.{OfStep}
use Rattle.hk_node.specs.declared.event.NodeEvent.{NodeEvent}
use Rattle.hk_node.specs.declared.event.NodeEvent.TheVariants as NodeEvent
use Rattle.hk_node.specs.Node.{NodeState, epoch_of}
use Rattle.hk_base.specs.View.{is_member}
use Rattle.hk_node.specs.Steps.{node_step}
use Rattle.hk_event.specs.declared.event.Event.{Event}
use Rattle.hk_event.specs.declared.event.Event.TheVariants.{Call, Take, Tick, TickAll, Crash, Resend, Replay, Copy, Start, Agree, Install, Lease, AskLease, Propose, Activate}
use Rattle.hk_event.specs.declared.refused.Refused.{Refused}
use Rattle.hk_event.specs.declared.refused.Refused.TheVariants.{LastMember, NoSuchMember, Full, NoNumbers, NotMember, Behind}
use Rattle.hk_world.specs.declared.process.Process.{Process}
use Rattle.hk_world.specs.declared.process.ManagerProcess.{ManagerProcess}
use Rattle.hk_world.specs.World.{WorldState, process_at, manager_at, clocks_of, numbered, last_view}
use Rattle.hk_world.specs.Start.{start}
use Rattle.hk_world.specs.Steps.{Accepted, world_step, acts, live, live_at, running_at, live_manager, live_manager_at, managing_at, live_actor, takes, ticks_at, ticked_by, manager_ticks_at, manager_ticked_by, all_ticked_by, manager_acts, manages, crashes_at, manager_crashes_at, may_join, starts_at, unmanaged, agrees, may_run, guarded_by, installs_at, leases_at}
use Rattle.hk_world.specs.Sound.{IsEvent, IsWorld}
use Rattle.hk_world.specs.Laws.{StartIsSound, StepKeepsSound}
use Rattle.hk_ever_sent.specs.Worlds.{next_world, world_after, WorldsSend}
use Rattle.hk_sent.proofs.Nodes.{AllKeep, all_sent, step_keep}
use Rattle.hk_sent.proofs.Managers.{step_keep as manager_keep}

-- the letters of the world after an event that is accepted
abbrev OfMade : Result Accepted Refused → Type 0
OfMade (Ok a) = AllKeep a.world.letters
OfMade (Err refused) = ⊤

all_append : (xs ys : List Letter) → AllKeep xs → AllKeep ys → AllKeep (xs ++ ys)
all_append [] ys all more = more
all_append (x ∷ xs) ys all more = (all.0, all_append xs ys all.1 more)

by_if : (b : Bool) (made refused : Result Accepted Refused) → OfMade made → OfMade refused → OfMade (if b then made else refused)
by_if true made refused keep other = keep
by_if false made refused keep other = other

module _ (w : WorldState) (keep : AllKeep w.letters) where
  -- ---- live actors
  live_keep : (id : NodeId) (step : NodeState → Result Accepted Refused) → ((node : NodeState) → OfMade (step node)) → OfMade (live w id step)
  live_keep id step keeps = at (process_at id w.processes)
    where
      running : (b : Bool) (node : NodeState) → OfMade (running_at b node step)
      running true node = tt
      running false node = keeps node

      at : (o : Option Process) → OfMade (live_at o step)
      at None = tt
      at (Some process) = running process.crashed process.node

  live_manager_keep : (m : ℕ) (step : ManagerState → Result Accepted Refused) → ((manager : ManagerState) → OfMade (step manager)) → OfMade (live_manager w m step)
  live_manager_keep m step keeps = at (manager_at m w.managers)
    where
      managing : (b : Bool) (manager : ManagerState) → OfMade (managing_at b manager step)
      managing true manager = tt
      managing false manager = keeps manager

      at : (o : Option ManagerProcess) → OfMade (live_manager_at o step)
      at None = tt
      at (Some process) = managing process.crashed process.manager

  actor_keep : (actor : Actor) (step : NodeId → NodeState → Result Accepted Refused) (by_manager : ℕ → ManagerState → Result Accepted Refused) →
      ((id : NodeId) (node : NodeState) → OfMade (step id node)) → ((m : ℕ) (manager : ManagerState) → OfMade (by_manager m manager)) → OfMade (live_actor w actor step by_manager)
  actor_keep (Node id) step by_manager keeps managed = live_keep id (step id) (keeps id)
  actor_keep (Manager m) step by_manager keeps managed = live_manager_keep m (by_manager m) (managed m)

  -- ---- steps
  acts_keep : (id : NodeId) (node : NodeState) (event : NodeEvent) → OfMade (acts w id node (node_step node event))
  acts_keep id node event = all_append w.letters (node_step node event).letters keep (step_keep node event)

  manager_acts_keep : (m : ℕ) (r : Result ManagerStepped ManagerFault) → OfStep (λ stepped. AllKeep stepped.letters) r → OfMade (manager_acts w m r)
  manager_acts_keep m (Ok stepped) sent = all_append w.letters stepped.letters keep sent
  manager_acts_keep m (Err fault) sent = tt

  manages_keep : (m : ℕ) (event : ManagerEvent) → OfMade (manages w m event)
  manages_keep m event = live_manager_keep m _ (λ manager. manager_acts_keep m (manager_step manager event) (manager_keep manager event))

  takes_keep : (o : Option Letter) → OfMade (takes w o)
  takes_keep None = tt
  takes_keep (Some letter) = actor_keep letter.to _ _ (λ id node. acts_keep id node (NodeEvent.Receive letter))
      (λ m manager. manager_acts_keep m (manager_step manager (ManagerEvent.Receive letter)) (manager_keep manager (ManagerEvent.Receive letter)))

  -- ---- clocks
  ticked_keep : (r : Result ClockState ClockFault) (id : NodeId) (to : ℕ) (node : NodeState) → OfMade (ticked_by r w id to node)
  ticked_keep (Ok clocks) id to node = all_append w.letters [] keep tt
  ticked_keep (Err fault) id to node = tt

  manager_ticked_keep : (r : Result ClockState ClockFault) (m to : ℕ) (manager : ManagerState) → OfMade (manager_ticked_by r w m to manager)
  manager_ticked_keep (Ok clocks) m to manager = keep
  manager_ticked_keep (Err fault) m to manager = tt

  all_ticked_keep : (r : Result ClockState ClockFault) (to : ℕ) → OfMade (all_ticked_by r w to)
  all_ticked_keep (Ok clocks) to = keep
  all_ticked_keep (Err fault) to = tt

  -- ---- starts, views and leases
  starts_keep : (o : Option Process) (id : NodeId) → OfMade (starts_at o w id)
  starts_keep (Some process) id = tt
  starts_keep None id = by_if (may_join w id) _ (Err NotMember) keep tt

  unmanaged_keep : (managers : List ManagerProcess) (answer : Result Accepted Refused) → OfMade answer → OfMade (unmanaged managers answer)
  unmanaged_keep [] answer keeps = keeps
  unmanaged_keep (p ∷ managers) answer keeps = tt

  agrees_keep : (view : View) (change : Change) → OfMade (agrees w view change)
  agrees_keep view (Drop id) = by_if (is_member id view.members) _ (Err NoSuchMember) (by_if (length view.members == 1) (Err LastMember) _ tt keep) tt
  agrees_keep view Add = by_if (nat_le 16 (length view.members)) (Err Full) _ tt (by_if (nat_le 65536 view.next) (Err NoNumbers) _ tt keep)

  guarded_keep : (o : Option (NodeId × Process)) (id : NodeId) (node : NodeState) (view : View) → OfMade (guarded_by o w id node view)
  guarded_keep None id node view = acts_keep id node (NodeEvent.Install view)
  guarded_keep (Some p) id node view = tt

  installs_keep : (o : Option View) (id : NodeId) (node : NodeState) → OfMade (installs_at o w id node)
  installs_keep None id node = tt
  installs_keep (Some view) id node = by_if (is_member id view.members) _ (Err NotMember)
      (by_if (nat_lt (epoch_of node) view.epoch) _ (Err (Behind (epoch_of node))) (guarded_keep (find (may_run w.views view) w.processes) id node view) tt) tt

  leases_keep : (id : NodeId) (end : ℕ) (node : NodeState) → OfMade (leases_at w id end node)
  leases_keep id end node = by_if (is_member id (last_view w.views).members) _ (Err NotMember) (acts_keep id node (NodeEvent.Grant end)) tt

  -- ---- every event
  pub event_keep : (event : Event) → OfMade (world_step w event)
  event_keep (Call id key op) = live_keep id _ (λ node. acts_keep id node (NodeEvent.Call (record { 0 = w.calls + 1 }) key op))
  event_keep (Take letter) = takes_keep (numbered letter w.letters)
  event_keep (Tick actor to) = actor_keep actor (ticks_at w to) (manager_ticks_at w to)
      (λ id node. ticked_keep (clock_step (clocks_of w) (ClockEvent.Tick (Node id) to)) id to node) (λ m manager. manager_ticked_keep (clock_step (clocks_of w) (ClockEvent.Tick (Manager m) to)) m to manager)
  event_keep (TickAll to) = all_ticked_keep (clock_step (clocks_of w) (ClockEvent.TickAll to)) to
  event_keep (Crash actor) = actor_keep actor (crashes_at w) (manager_crashes_at w) (λ id node. keep) (λ m manager. keep)
  event_keep (Resend id key) = live_keep id _ (λ node. acts_keep id node (NodeEvent.Resend key))
  event_keep (Replay id key) = live_keep id _ (λ node. acts_keep id node (NodeEvent.Replay key))
  event_keep (Copy id from room) = live_keep id _ (λ node. acts_keep id node (NodeEvent.AskCopy from room))
  event_keep (Start id) = starts_keep (process_at id w.processes) id
  event_keep (Agree change) = unmanaged_keep w.managers _ (agrees_keep (last_view w.views) change)
  event_keep (Install id epoch) = unmanaged_keep w.managers _ (live_keep id _ (λ node. installs_keep (numbered epoch w.views) id node))
  event_keep (Lease id end) = unmanaged_keep w.managers _ (live_keep id _ (leases_keep id end))
  event_keep (AskLease id manager) = live_keep id _ (λ node. acts_keep id node (NodeEvent.AskLease manager))
  event_keep (Propose manager base change) = manages_keep manager (ManagerEvent.Propose base change)
  event_keep (Activate manager) = manages_keep manager ManagerEvent.Activate

-- a sound world, whose letters keep the limit
record IsSending (w : WorldState) : Type 0 where
  sound : IsWorld w
  keep : AllKeep w.letters

sends_on : (w : WorldState) (event : Event) → StepKeepsSound → IsEvent event → IsSending w → IsSending (next_world w (world_step w event))
sends_on w event sound may is = at (world_step w event) (λ a e. sound w event a is.sound may e) (event_keep w is.keep event)
  where
    at : (r : Result Accepted Refused) → ((a : Accepted) → r ≡ Ok a → IsWorld a.world) → OfMade r → IsSending (next_world w r)
    at (Ok a) sounds keeps = record { sound = sounds a refl; keep = keeps }
    at (Err refused) sounds keeps = is

sends_ever : (w : WorldState) (events : List Event) → StepKeepsSound → AllByRecursion IsEvent events → IsSending w → IsSending (world_after w events)
sends_ever w [] sound may is = is
sends_ever w (event ∷ events) sound may is = sends_ever (next_world w (world_step w event)) events sound may.1 (sends_on w event sound may.0 is)

pub worlds_send : StartIsSound → StepKeepsSound → WorldsSend
worlds_send begins sound h is events may =
    let sending = sends_ever (start h) events sound may (record { sound = begins h is; keep = tt }) in
    all_sent (world_after (start h) events).letters sending.sound.letters sending.keep
