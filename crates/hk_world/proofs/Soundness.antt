-- Every step keeps a world sound.
use Rattle.std.proofs.Common.{◌≡◌, ◌≢◌, ◌+◌, ◌++◌, ◌≤◌, ◌<◌, ℕ, zero, suc, max, Bool, true, false, not, cond, nat_lt, nat_le, nat_eq, List, [], ◌∷◌, length, map, Option, Some, None, Result, Ok, Err, refl, sym, ap, subst, ◌∙◌, arith}
use Rattle.std.specs.Prelude.{⊤}
use Rattle.std.specs.Option.{option_map}
use Rattle.std.specs.List.{AllByRecursion, find}
use Rattle.std.specs.List.Sorted.{IsStrictlySortedBy}
use Rattle.std.specs.BTreeMap.{is_at}
use Rattle.std.specs.Map.{keys_of}
use Rattle.std.proofs.lemmas.Bool.{eqb-false, leb-false}
use Rattle.std.proofs.lemmas.List.{length_push}
use Rattle.hk_base.specs.declared.time.TheConstants.{MAX_TIME}
use Rattle.hk_base.specs.declared.stamp.NodeId.{NodeId}
use Rattle.hk_base.specs.declared.view.View.{View}
use Rattle.hk_base.specs.declared.view.Change.{Change}
use Rattle.hk_base.specs.declared.view.Change.TheVariants.{Drop, Add}
use Rattle.hk_base.specs.declared.letter.Actor.{Actor}
use Rattle.hk_base.specs.declared.letter.Actor.TheVariants.{Node, Manager}
use Rattle.hk_base.specs.declared.letter.Letter.{Letter}
use Rattle.hk_base.specs.View.{IsView, is_member}
use Rattle.hk_base.specs.Range.{IsLetter}
use Rattle.hk_clocks.specs.declared.fault.ClockFault.{ClockFault}
use Rattle.hk_clocks.specs.declared.pace.Pace.{Pace}
use Rattle.hk_clocks.specs.Clocks.{ClockState, Paces, pace_of, clock_of}
use Rattle.hk_clocks.specs.Steps.{ClockEvent, clock_step, greatest_clock}
use Rattle.hk_clocks.specs.Runs.{made_or}
use Rattle.hk_clocks.specs.Sound.{AreClocks}
use Rattle.hk_manager.specs.declared.event.ManagerEvent.{ManagerEvent}
use Rattle.hk_manager.specs.declared.fault.ManagerFault.{ManagerFault}
use Rattle.hk_manager.specs.Manager.{ManagerState}
use Rattle.hk_manager.specs.Steps.{ManagerStepped, manager_step, manager_ticks}
use Rattle.hk_manager.specs.Sound.{IsManager, IsManagerEvent}
use Rattle.hk_manager.specs.Laws.{OfStep, StepKeepsManager, LettersInRange as ManagerLetters}
use Rattle.hk_node.specs.declared.event.NodeEvent.{NodeEvent}
use Rattle.hk_node.specs.Node.{NodeState, epoch_of}
use Rattle.hk_node.specs.Made.{joiner}
use Rattle.hk_node.specs.Stepped.{Stepped}
use Rattle.hk_node.specs.Steps.{node_step, ticks}
use Rattle.hk_node.specs.Sound.{IsNode, IsNodeEvent}
use Rattle.hk_node.specs.Laws.{StepKeepsNode, LettersInRange}
use Rattle.hk_node.proofs.Managed.{nothing_heard}
use Rattle.hk_event.specs.declared.event.Event.{Event}
use Rattle.hk_event.specs.declared.event.Event.TheVariants.{Call, Take, Tick, TickAll, Crash, Resend, Replay, Copy, Start, Agree, Install, Lease, AskLease, Propose, Activate}
use Rattle.hk_event.specs.declared.refused.Refused.{Refused}
use Rattle.hk_event.specs.declared.refused.Refused.TheVariants.{LastMember, Full, NoNumbers}
use Rattle.hk_world.specs.declared.process.Process.{Process}
use Rattle.hk_world.specs.declared.process.ManagerProcess.{ManagerProcess}
use Rattle.hk_world.specs.World.{WorldState, Processes, by_number, process_at, put_process, manager_at, put_manager, clocks_of, paces_by, unless_crashed, node_clock, manager_clock, numbered, last_view}
use Rattle.hk_world.specs.Steps.{Accepted, world_step, with_step, live, live_at, running_at, live_manager, live_manager_at, managing_at, live_actor, is_live, process_ticked, manager_ticked, takes, ticks_at, ticked_by, manager_ticks_at, manager_ticked_by, all_tick, all_ticked_by, manager_acts, with_manager_step, learned, agreed_on, guarded_by, may_run, may_join, installs_at, starts_at, joining, agrees, unmanaged}
use Rattle.hk_world.specs.Sound.{IsEvent, IsWorld, IsProcess, IsManagerProcess, AreViews}
use Rattle.hk_world.specs.Acting.{IsAct, IsManagerAct}
use Rattle.hk_world.specs.Views.{dropped, added}
use Rattle.hk_world.proofs.Processes.{found_holds}
use Rattle.hk_world.proofs.Managing.{get_mapped, IsSteady as IsSteadyManager, OfMade, IsSilent, step_steady}
use Rattle.hk_world.proofs.Clocked.{Ticked, tick_ticked, AllTicked, all_ticked, start_own, start_other, stop_own, stop_other, goes_on, made_on, step_skew, greatest_above, greatest_within}
use Rattle.hk_world.proofs.Built.{tied, process_tied, manager_tied, node_parts, manager_parts, built_world}
use Rattle.hk_world.proofs.Steady.{IsSteady, call_steady, resend_steady, replay_steady, copy_steady, install_steady, receive_steady, asks_steady}
use Rattle.hk_world.proofs.Viewed.{numbered_holds, all_append, views_next, dropped_next, added_next}

abbrev pub NodeLaws : Type 0
NodeLaws = StepKeepsNode × LettersInRange

-- what a step of a node has to keep
pub record IsSame (before : NodeState) (stepped : Stepped) : Type 0 where
  pub id : stepped.node.id ≡ before.id
  pub skew : stepped.node.skew ≡ before.skew
  pub managers : stepped.node.managers ≡ before.managers

pub record IsSoundStep (before : NodeState) (stepped : Stepped) : Type 0 where
  pub steady : IsSame before stepped
  pub node : IsNode stepped.node
  pub letters : AllByRecursion IsLetter stepped.letters

-- no event but a tick
abbrev pub IsStill : NodeEvent → Type 0
IsStill (NodeEvent.Tick now) = ⊥
IsStill event = ⊤

event_steady : (node : NodeState) (event : NodeEvent) → IsStill event → IsSteady node (node_step node event)
event_steady node (NodeEvent.Call call key op) still = call_steady node call key op
event_steady node (NodeEvent.Receive letter) still = receive_steady node letter
event_steady node (NodeEvent.Resend key) still = resend_steady node key
event_steady node (NodeEvent.Replay key) still = replay_steady node key
event_steady node (NodeEvent.AskLease manager) still = asks_steady node manager
event_steady node (NodeEvent.AskCopy from room) still = copy_steady node from room
event_steady node (NodeEvent.Tick now) still = absurd still
event_steady node (NodeEvent.Grant end) still = record { id = refl; skew = refl; managers = refl; clock = refl }
event_steady node (NodeEvent.Install view) still = install_steady node view

by_laws : NodeLaws → (node : NodeState) (event : NodeEvent) → IsNode node → IsNodeEvent event → IsStill event → IsSoundStep node (node_step node event)
by_laws laws node event is range still =
    let steady = event_steady node event still in
    record { steady = record { id = steady.id; skew = steady.skew; managers = steady.managers }; node = laws.0 node event is range; letters = laws.1 node event is range }

ticked_sound : NodeLaws → (node : NodeState) (to : ℕ) → IsNode node → to ≤ MAX_TIME → IsSoundStep node (ticks node to)
ticked_sound laws node to is range = record { steady = record { id = refl; skew = refl; managers = refl }; node = laws.0 node (NodeEvent.Tick to) is range; letters = tt }

abbrev pub ManagerLaws : Type 0
ManagerLaws = StepKeepsManager × ManagerLetters

-- ---- clocks in place of clocks
with_skew : (w : WorldState) (clocks : ClockState) → clocks.skew ≡ w.skew → AreClocks clocks → AreClocks (record { skew = w.skew; paces = clocks.paces })
with_skew w clocks same are = subst (λ (n : ℕ). AreClocks (record { skew = n; paces = clocks.paces })) same (record { skew = are.skew; ordered = are.ordered; paces = are.paces })

made_skew : (w : WorldState) (event : ClockEvent) → (made_or (clocks_of w) (clock_step (clocks_of w) event)).skew ≡ w.skew
made_skew w event = step_skew (clocks_of w) event

goes_with : (w : WorldState) (event : ClockEvent) → AreClocks (made_or (clocks_of w) (clock_step (clocks_of w) event)) → AreClocks (record { skew = w.skew; paces = paces_by w event })
goes_with w event are = with_skew w (made_or (clocks_of w) (clock_step (clocks_of w) event)) (made_skew w event) are

no_pace : (paces : Paces) (a : Actor) → clock_of paces a ≡ None → pace_of paces a ≡ None
no_pace paces a e = at (pace_of paces a) e
  where
    at : (o : Option Pace) → option_map (λ pace. pace.clock) o ≡ None → o ≡ None
    at None h = refl
    at (Some pace) h = absurd cc

pub node_at : (w : WorldState) (id : NodeId) (p : Process) → IsWorld w → process_at id w.processes ≡ Some p → IsNode p.node
node_at w id p sound found = (found_holds (IsProcess w) id p w.processes sound.processes found).node

-- the clock that is kept of a live node, or of a live manager
pub clock_at : (w : WorldState) (id : NodeId) (p : Process) → IsWorld w → process_at id w.processes ≡ Some p → p.crashed ≡ false → clock_of w.paces (Node id) ≡ Some p.node.clock
clock_at w id p sound found runs = sound.paced (Node id) ∙ ap node_clock found ∙ ap (λ (b : Bool). unless_crashed b p.node.clock) runs

pub manager_clock_at : (w : WorldState) (m : ℕ) (p : ManagerProcess) → IsWorld w → manager_at m w.managers ≡ Some p → p.crashed ≡ false → clock_of w.paces (Manager m) ≡ Some p.manager.clock
manager_clock_at w m p sound found runs = sound.paced (Manager m) ∙ ap manager_clock found ∙ ap (λ (b : Bool). unless_crashed b p.manager.clock) runs

-- The world after a live node's step, with other clocks, of which its own is what the step made it.
pub step_world : (w : WorldState) (id : NodeId) (p : Process) (stepped : Stepped) (calls : ℕ) (paces : Paces) → IsWorld w → process_at id w.processes ≡ Some p → IsSoundStep p.node stepped →
    AreClocks (record { skew = w.skew; paces = paces }) → clock_of paces (Node id) ≡ Some stepped.node.clock → ((b : Actor) → Node id ≢ b → clock_of paces b ≡ clock_of w.paces b) →
    IsWorld (record (with_step w id stepped) { paces = paces; calls = calls })
step_world w id p stepped calls paces sound found step clocks own others =
    let process : Process = record { node = stepped.node; crashed = false } in
    let old : IsProcess w (id, p) = found_holds (IsProcess w) id p w.processes sound.processes found in
    built_world w _ w.managers paces (w.letters ++ stepped.letters) w.views calls sound
    (node_parts w id process paces (w.letters ++ stepped.letters) sound
    (record { own = step.steady.id ∙ old.own; same_skew = step.steady.skew ∙ old.same_skew; managed = step.steady.managers ∙ old.managed; node = step.node })
    clocks (process_tied w id process paces sound own others) (all_append IsLetter w.letters stepped.letters sound.letters step.letters))

-- however many calls were made
pub counted_world : (w : WorldState) (calls : ℕ) → IsWorld w → IsWorld (record w { calls = calls })
counted_world w calls sound = built_world w w.processes w.managers w.paces w.letters w.views calls sound (record {
  ordered = sound.ordered;
  each_process = sound.processes;
  as_many = refl;
  each_manager = sound.managers;
  clocks = sound.clocks;
  tied = tied w sound;
  each_letter = sound.letters;
  some = sound.some;
  each_view = sound.each;
  are_views = sound.views;
})

-- ---- the table, one event after the other
abbrev pub SoundIf : Result Accepted Refused → Type 0
SoundIf (Ok a) = IsWorld a.world
SoundIf (Err refused) = ⊤

choose : (b : Bool) (x y : Result Accepted Refused) → SoundIf x → SoundIf y → SoundIf (cond b x y)
choose true x y p q = p
choose false x y p q = q

live_sound : (w : WorldState) (id : NodeId) (step : NodeState → Result Accepted Refused) → ((p : Process) → process_at id w.processes ≡ Some p → p.crashed ≡ false → SoundIf (step p.node)) → SoundIf (live w id step)
live_sound w id step each = at (process_at id w.processes) refl
  where
    running : (b : Bool) (p : Process) → p.crashed ≡ b → process_at id w.processes ≡ Some p → SoundIf (running_at b p.node step)
    running true p is found = tt
    running false p is found = each p found is

    at : (o : Option Process) → process_at id w.processes ≡ o → SoundIf (live_at o step)
    at None found = tt
    at (Some p) found = running p.crashed p refl found

manager_sound : (w : WorldState) (m : ℕ) (step : ManagerState → Result Accepted Refused) → ((p : ManagerProcess) → manager_at m w.managers ≡ Some p → p.crashed ≡ false → SoundIf (step p.manager)) → SoundIf (live_manager w m step)
manager_sound w m step each = at (manager_at m w.managers) refl
  where
    running : (b : Bool) (p : ManagerProcess) → p.crashed ≡ b → manager_at m w.managers ≡ Some p → SoundIf (managing_at b p.manager step)
    running true p is found = tt
    running false p is found = each p found is

    at : (o : Option ManagerProcess) → manager_at m w.managers ≡ o → SoundIf (live_manager_at o step)
    at None found = tt
    at (Some p) found = running p.crashed p refl found

actor_sound : (w : WorldState) (actor : Actor) (step : NodeId → NodeState → Result Accepted Refused) (by_manager : ℕ → ManagerState → Result Accepted Refused) →
    ((id : NodeId) (p : Process) → process_at id w.processes ≡ Some p → p.crashed ≡ false → SoundIf (step id p.node)) →
    ((m : ℕ) (p : ManagerProcess) → manager_at m w.managers ≡ Some p → p.crashed ≡ false → SoundIf (by_manager m p.manager)) → SoundIf (live_actor w actor step by_manager)
actor_sound w (Node id) step by_manager each of_managers = live_sound w id (step id) (each id)
actor_sound w (Manager m) step by_manager each of_managers = manager_sound w m (by_manager m) (of_managers m)

-- ---- a manager's step
learned_some : (views : List View) (held : View) → 1 ≤ length views → 1 ≤ length (learned views held)
learned_some views held some = at (nat_lt (last_view views).epoch held.epoch)
  where
    at : (b : Bool) → 1 ≤ length (cond b (views ++ held ∷ []) views)
    at true = rw (length_push views held) (omega arith)
    at false = some

learned_each : (views : List View) (held : View) → AllByRecursion IsView views → IsView held → AllByRecursion IsView (learned views held)
learned_each views held each is = at (nat_lt (last_view views).epoch held.epoch)
  where
    at : (b : Bool) → AllByRecursion IsView (cond b (views ++ held ∷ []) views)
    at true = all_append IsView views (held ∷ []) each (is, tt)
    at false = each

-- what a step of a manager has to keep
pub record IsSoundManagerStep (before : ManagerState) (stepped : ManagerStepped) : Type 0 where
  pub steady : IsSteadyManager before stepped
  pub manager : IsManager stepped.manager
  pub letters : AllByRecursion IsLetter stepped.letters

-- a step that is made
pub by_manager_laws : ManagerLaws → (m : ManagerState) (event : ManagerEvent) → IsManager m → IsManagerEvent event → IsSilent event → (stepped : ManagerStepped) → manager_step m event ≡ Ok stepped → IsSoundManagerStep m stepped
by_manager_laws laws m event is range silent stepped made = record {
  steady = subst (OfMade (IsSteadyManager m)) made (step_steady m event silent);
  manager = subst (OfStep (λ (s : ManagerStepped). IsManager s.manager)) made (laws.0 m event is range);
  letters = (subst (OfStep (λ (s : ManagerStepped). AllByRecursion IsLetter s.letters × (length s.letters ≤ 16))) made (laws.1 m event is range)).0;
}

pub manager_step_world : (w : WorldState) (m : ℕ) (p : ManagerProcess) (stepped : ManagerStepped) → IsWorld w → manager_at m w.managers ≡ Some p → p.crashed ≡ false → IsSoundManagerStep p.manager stepped →
    IsWorld (with_manager_step w m stepped)
manager_step_world w m p stepped sound found runs step =
    let process : ManagerProcess = record { manager = stepped.manager; crashed = false } in
    let old = sound.managers m p found in
    let held = step.manager.held in
    built_world w w.processes _ w.paces (w.letters ++ stepped.letters) (learned w.views stepped.manager.held) w.calls sound
    (manager_parts w m p process w.paces (w.letters ++ stepped.letters) (learned w.views stepped.manager.held) sound found
    (record { own = step.steady.id ∙ old.own; among = step.steady.managers ∙ old.among; same_lease = step.steady.lease ∙ old.same_lease; manager = step.manager })
    sound.clocks (manager_tied w m p process w.paces sound found (manager_clock_at w m p sound found runs ∙ ap (λ (n : ℕ). Some n) (sym step.steady.clock)) (λ b ne. refl))
    (all_append IsLetter w.letters stepped.letters sound.letters step.letters) (learned_some w.views stepped.manager.held sound.some) (learned_each w.views stepped.manager.held sound.each held))

-- ---- clocks
greater_to : (clock to : ℕ) → clock ≤ to → to ≡ max clock to
greater_to clock to up = omega (arith, up)

-- the world after a tick of a node, or of a manager
pub tick_world : NodeLaws → (w : WorldState) (id : NodeId) (p : Process) (to : ℕ) (clocks : ClockState) → IsWorld w → process_at id w.processes ≡ Some p → p.crashed ≡ false → to ≤ MAX_TIME →
    clock_step (clocks_of w) (ClockEvent.Tick (Node id) to) ≡ Ok clocks → IsWorld (record (with_step w id (ticks p.node to)) { paces = clocks.paces })
tick_world laws w id p to clocks sound found runs range is =
    let t : Ticked (clocks_of w) clocks (Node id) to = tick_ticked (clocks_of w) clocks (Node id) to is in
    let up : p.node.clock ≤ to = t.before p.node.clock (clock_at w id p sound found runs) in
    step_world w id p (ticks p.node to) w.calls clocks.paces sound found (ticked_sound laws p.node to (node_at w id p sound found) range)
    (with_skew w clocks t.same_skew (made_on (clocks_of w) clocks (ClockEvent.Tick (Node id) to) sound.clocks range is))
    (t.own ∙ ap (λ (n : ℕ). Some n) (greater_to p.node.clock to up)) t.others

pub manager_tick_world : ManagerLaws → (w : WorldState) (m : ℕ) (p : ManagerProcess) (to : ℕ) (clocks : ClockState) → IsWorld w → manager_at m w.managers ≡ Some p → p.crashed ≡ false → to ≤ MAX_TIME →
    clock_step (clocks_of w) (ClockEvent.Tick (Manager m) to) ≡ Ok clocks →
    IsWorld (record w { managers = put_manager m (record { manager = (manager_ticks p.manager to).manager; crashed = false }) w.managers; paces = clocks.paces })
manager_tick_world laws w m p to clocks sound found runs range is =
    let t : Ticked (clocks_of w) clocks (Manager m) to = tick_ticked (clocks_of w) clocks (Manager m) to is in
    let up : p.manager.clock ≤ to = t.before p.manager.clock (manager_clock_at w m p sound found runs) in
    let process : ManagerProcess = record { manager = (manager_ticks p.manager to).manager; crashed = false } in
    let old = sound.managers m p found in
    built_world w w.processes _ clocks.paces w.letters w.views w.calls sound
    (manager_parts w m p process clocks.paces w.letters w.views sound found
    (record { own = old.own; among = old.among; same_lease = old.same_lease; manager = laws.0 p.manager (ManagerEvent.Tick to) old.manager range })
    (with_skew w clocks t.same_skew (made_on (clocks_of w) clocks (ClockEvent.Tick (Manager m) to) sound.clocks range is))
    (manager_tied w m p process clocks.paces sound found (t.own ∙ ap (λ (n : ℕ). Some n) (greater_to p.manager.clock to up)) t.others) sound.letters sound.some sound.each)

ticked_keys : (to : ℕ) (ps : Processes) → keys_of (map (process_ticked to) ps) ≡ keys_of ps
ticked_keys to [] = refl
ticked_keys to (p ∷ ps) = ap (λ (l : List NodeId). p.0 ∷ l) (ticked_keys to ps)

ticked_process : NodeLaws → (w : WorldState) (to : ℕ) → to ≤ MAX_TIME → (p : NodeId × Process) → IsProcess w p → IsProcess w (process_ticked to p)
ticked_process laws w to range p is = at (is_live p)
  where
    at : (b : Bool) → IsProcess w (p.0, cond b (record p.1 { node = (ticks p.1.node to).node }) p.1)
    at true = record { own = is.own; same_skew = is.same_skew; managed = is.managed; node = laws.0 p.1.node (NodeEvent.Tick to) is.node range }
    at false = is

ticked_all : NodeLaws → (w : WorldState) (to : ℕ) → to ≤ MAX_TIME → (ps : Processes) → AllByRecursion (IsProcess w) ps → AllByRecursion (IsProcess w) (map (process_ticked to) ps)
ticked_all laws w to range [] all = tt
ticked_all laws w to range (p ∷ ps) all = (ticked_process laws w to range p all.0, ticked_all laws w to range ps all.1)

ticked_manager : ManagerLaws → (w : WorldState) (to m : ℕ) → to ≤ MAX_TIME → (p : ManagerProcess) → IsManagerProcess w m p → IsManagerProcess w m (manager_ticked to p)
ticked_manager laws w to m range p is = at (not p.crashed)
  where
    at : (b : Bool) → IsManagerProcess w m (cond b (record p { manager = (manager_ticks p.manager to).manager }) p)
    at true = record { own = is.own; among = is.among; same_lease = is.same_lease; manager = laws.0 p.manager (ManagerEvent.Tick to) is.manager range }
    at false = is

-- a clock that is kept reads `to`, where it was kept before
abbrev all_at : ℕ → Option ℕ → Option ℕ
all_at to o = option_map (λ clock. to) o

all_up : (crashed : Bool) (clock to : ℕ) → ((n : ℕ) → unless_crashed crashed clock ≡ Some n → n ≤ to) → all_at to (unless_crashed crashed clock) ≡ unless_crashed crashed (cond (not crashed) (max clock to) clock)
all_up true clock to up = refl
all_up false clock to up = ap (λ (n : ℕ). Some n) (greater_to clock to (up clock refl))

ticked_node_clock : (to : ℕ) (o : Option Process) (id : NodeId) → ((n : ℕ) → node_clock o ≡ Some n → n ≤ to) → all_at to (node_clock o) ≡ node_clock (option_map (λ p. (process_ticked to (id, p)).1) o)
ticked_node_clock to None id up = refl
ticked_node_clock to (Some p) id up = all_up p.crashed p.node.clock to up ∙ at (not p.crashed)
  where
    at : (b : Bool) → unless_crashed p.crashed (cond b (max p.node.clock to) p.node.clock) ≡ node_clock (Some (cond b (record p { node = (ticks p.node to).node }) p))
    at true = refl
    at false = refl

ticked_manager_clock : (to : ℕ) (o : Option ManagerProcess) → ((n : ℕ) → manager_clock o ≡ Some n → n ≤ to) → all_at to (manager_clock o) ≡ manager_clock (option_map (manager_ticked to) o)
ticked_manager_clock to None up = refl
ticked_manager_clock to (Some p) up = all_up p.crashed p.manager.clock to up ∙ at (not p.crashed)
  where
    at : (b : Bool) → unless_crashed p.crashed (cond b (max p.manager.clock to) p.manager.clock) ≡ manager_clock (Some (cond b (record p { manager = (manager_ticks p.manager to).manager }) p))
    at true = refl
    at false = refl

ticked_at : (to : ℕ) (id : NodeId) (ps : Processes) → process_at id (map (process_ticked to) ps) ≡ option_map (λ p. (process_ticked to (id, p)).1) (process_at id ps)
ticked_at to id [] = refl
ticked_at to id (p ∷ ps) = at (is_at (by_number id) p.0) (ticked_at to id ps)
  where
    at : (b : Bool) → process_at id (map (process_ticked to) ps) ≡ option_map (λ p. (process_ticked to (id, p)).1) (process_at id ps) →
        cond b (Some (process_ticked to p).1) (process_at id (map (process_ticked to) ps)) ≡ option_map (λ p. (process_ticked to (id, p)).1) (cond b (Some p.1) (process_at id ps))
    at true ih = refl
    at false ih = ih

manager_ticked_at : (to m : ℕ) (ms : List ManagerProcess) → manager_at m (map (manager_ticked to) ms) ≡ option_map (manager_ticked to) (manager_at m ms)
manager_ticked_at to m [] = refl
manager_ticked_at to zero (p ∷ ms) = refl
manager_ticked_at to (suc m) (p ∷ ms) = manager_ticked_at to m ms

ticked_length : (to : ℕ) (ms : List ManagerProcess) → length (map (manager_ticked to) ms) ≡ length ms
ticked_length to [] = refl
ticked_length to (p ∷ ms) = ap suc (ticked_length to ms)

-- where none is made of some, there was none
none_mapped : (to : ℕ) (ms : List ManagerProcess) → map (manager_ticked to) ms ≡ [] → ms ≡ []
none_mapped to [] e = refl
none_mapped to (p ∷ ms) e = absurd cc

pub all_tick_world : NodeLaws → ManagerLaws → (w : WorldState) (to : ℕ) (clocks : ClockState) → IsWorld w → to ≤ MAX_TIME → clock_step (clocks_of w) (ClockEvent.TickAll to) ≡ Ok clocks →
    IsWorld (record w { processes = map (process_ticked to) w.processes; managers = map (manager_ticked to) w.managers; paces = clocks.paces })
all_tick_world laws of_managers w to clocks sound range is =
    let t : AllTicked (clocks_of w) clocks to = all_ticked (clocks_of w) clocks to is in
    built_world w (map (process_ticked to) w.processes) (map (manager_ticked to) w.managers) clocks.paces w.letters w.views w.calls sound (record {
      ordered = subst (λ (ks : List NodeId). IsStrictlySortedBy by_number ks) (sym (ticked_keys to w.processes)) sound.ordered;
      each_process = ticked_all laws w to range w.processes sound.processes;
      as_many = ticked_length to w.managers;
      each_manager = λ m p at. let q = get_mapped (manager_ticked to) m p w.managers at in subst (IsManagerProcess w m) q.2 (ticked_manager of_managers w to m range q.0 (sound.managers m q.0 q.1));
      clocks = with_skew w clocks t.same_skew (made_on (clocks_of w) clocks (ClockEvent.TickAll to) sound.clocks range is);
      tied = record {
        nodes = λ id. t.each (Node id) ∙ ap (all_at to) (sound.paced (Node id))
            ∙ ticked_node_clock to (process_at id w.processes) id (λ n e. t.before (Node id) n (sound.paced (Node id) ∙ e)) ∙ ap node_clock (sym (ticked_at to id w.processes));
        others = λ m. t.each (Manager m) ∙ ap (all_at to) (sound.paced (Manager m))
            ∙ ticked_manager_clock to (manager_at m w.managers) (λ n e. t.before (Manager m) n (sound.paced (Manager m) ∙ e)) ∙ ap manager_clock (sym (manager_ticked_at to m w.managers));
      };
      each_letter = sound.letters;
      some = sound.some;
      each_view = sound.each;
      are_views = λ none. sound.views (none_mapped to w.managers none);
    })

-- ---- crashes and starts
joiner_is_node : (id : NodeId) (skew managers : ℕ) → skew ≤ MAX_TIME → managers ≤ 9 → IsNode (joiner id skew managers)
unfolding IsStrictlySortedBy
joiner_is_node id skew managers within few = record {
  view = tt;
  resting = λ e. refl;
  unready = λ e. refl;
  ordered = tt;
  rows = tt;
  touched = tt;
  shadow = λ e. tt;
  clock_runs = omega arith;
  clock = omega arith;
  granted = omega arith;
  skew = within;
  heard = nothing_heard managers 0 few (omega arith);
}

pub greatest_in : (w : WorldState) → IsWorld w → greatest_clock 1 w.paces ≤ MAX_TIME
greatest_in w sound = greatest_within (clocks_of w) 1 sound.clocks (omega arith)

pub start_world : NodeLaws → (w : WorldState) (id : NodeId) → IsWorld w → process_at id w.processes ≡ None →
    IsWorld (record w { processes = put_process id (joining w id) w.processes; paces = paces_by w (ClockEvent.Start (Node id) (greatest_clock 1 w.paces)) })
start_world laws w id sound none =
    let clock : ℕ = greatest_clock 1 w.paces in
    let paces : Paces = paces_by w (ClockEvent.Start (Node id) clock) in
    let absent : pace_of w.paces (Node id) ≡ None = no_pace w.paces (Node id) (sound.paced (Node id) ∙ ap node_clock none) in
    built_world w _ w.managers paces w.letters w.views w.calls sound
    (node_parts w id (joining w id) paces w.letters sound
    (record {
      own = refl;
      same_skew = refl;
      managed = refl;
      node = laws.0 (joiner id w.skew (length w.managers)) (NodeEvent.Tick clock) (joiner_is_node id w.skew (length w.managers) sound.skew sound.few) (greatest_in w sound);
    })
    (goes_with w (ClockEvent.Start (Node id) clock) (goes_on (clocks_of w) (ClockEvent.Start (Node id) clock) sound.clocks (greatest_in w sound)))
    (process_tied w id (joining w id) paces sound
    (start_own (clocks_of w) (Node id) clock absent ∙ ap (λ (n : ℕ). Some n) (greater_to 1 clock (greatest_above 1 w.paces)))
    (λ b ne. start_other (clocks_of w) (Node id) b clock ne)) sound.letters)

pub crash_world : (w : WorldState) (id : NodeId) (p : Process) → IsWorld w → process_at id w.processes ≡ Some p →
    IsWorld (record w { processes = put_process id (record { node = p.node; crashed = true }) w.processes; paces = paces_by w (ClockEvent.Stop (Node id)) })
crash_world w id p sound found =
    let old : IsProcess w (id, p) = found_holds (IsProcess w) id p w.processes sound.processes found in
    let process : Process = record { node = p.node; crashed = true } in
    let paces : Paces = paces_by w (ClockEvent.Stop (Node id)) in
    built_world w _ w.managers paces w.letters w.views w.calls sound
    (node_parts w id process paces w.letters sound (record { own = old.own; same_skew = old.same_skew; managed = old.managed; node = old.node })
    (goes_with w (ClockEvent.Stop (Node id)) (goes_on (clocks_of w) (ClockEvent.Stop (Node id)) sound.clocks tt))
    (process_tied w id process paces sound (stop_own (clocks_of w) (Node id) sound.clocks) (λ b ne. stop_other (clocks_of w) (Node id) b ne)) sound.letters)

pub manager_crash_world : (w : WorldState) (m : ℕ) (p : ManagerProcess) → IsWorld w → manager_at m w.managers ≡ Some p →
    IsWorld (record w { managers = put_manager m (record { manager = p.manager; crashed = true }) w.managers; paces = paces_by w (ClockEvent.Stop (Manager m)) })
manager_crash_world w m p sound found =
    let old = sound.managers m p found in
    let process : ManagerProcess = record { manager = p.manager; crashed = true } in
    let paces : Paces = paces_by w (ClockEvent.Stop (Manager m)) in
    built_world w w.processes _ paces w.letters w.views w.calls sound
    (manager_parts w m p process paces w.letters w.views sound found (record { own = old.own; among = old.among; same_lease = old.same_lease; manager = old.manager })
    (goes_with w (ClockEvent.Stop (Manager m)) (goes_on (clocks_of w) (ClockEvent.Stop (Manager m)) sound.clocks tt))
    (manager_tied w m p process paces sound found (stop_own (clocks_of w) (Manager m) sound.clocks) (λ b ne. stop_other (clocks_of w) (Manager m) b ne)) sound.letters sound.some sound.each)

-- ---- views
pub view_world : (w : WorldState) (v : View) → IsWorld w → AreViews (w.views ++ v ∷ []) → IsWorld (record w { views = w.views ++ v ∷ [] })
view_world w v sound are = built_world w w.processes w.managers w.paces w.letters (w.views ++ v ∷ []) w.calls sound (record {
  ordered = sound.ordered;
  each_process = sound.processes;
  as_many = refl;
  each_manager = sound.managers;
  clocks = sound.clocks;
  tied = tied w sound;
  each_letter = sound.letters;
  some = are.some;
  each_view = are.each;
  are_views = λ none. are;
})

pub agrees_sound : (w : WorldState) (change : Change) → IsWorld w → w.managers ≡ [] → SoundIf (agrees w (last_view w.views) change)
agrees_sound w (Drop id) sound none = choose (is_member id (last_view w.views).members) _ _ (at (nat_eq (length (last_view w.views).members) 1) refl) tt
  where
    at : (b : Bool) → nat_eq (length (last_view w.views).members) 1 ≡ b → SoundIf (cond b (Err LastMember) (agreed_on w (dropped (last_view w.views) id)))
    at true e = tt
    at false e = view_world w _ sound (views_next w.views _ (sound.views none) (dropped_next w.views id (sound.views none) (eqb-false _ 1 e)))
agrees_sound w Add sound none = full (nat_le 16 (length (last_view w.views).members)) refl
  where
    numbers : (b : Bool) → nat_le 65536 (last_view w.views).next ≡ b → length (last_view w.views).members < 16 → SoundIf (cond b (Err NoNumbers) (agreed_on w (added (last_view w.views))))
    numbers true e few = tt
    numbers false e few = view_world w _ sound (views_next w.views _ (sound.views none) (added_next w.views (sound.views none) few (leb-false _ _ e)))

    full : (b : Bool) → nat_le 16 (length (last_view w.views).members) ≡ b → SoundIf (cond b (Err Full) (cond (nat_le 65536 (last_view w.views).next) (Err NoNumbers) (agreed_on w (added (last_view w.views)))))
    full true e = tt
    full false e = numbers (nat_le 65536 (last_view w.views).next) refl (leb-false _ _ e)

-- ---- the table
starts_sound : NodeLaws → (w : WorldState) (id : NodeId) → IsWorld w → (o : Option Process) → process_at id w.processes ≡ o → SoundIf (starts_at o w id)
starts_sound laws w id sound (Some p) found = tt
starts_sound laws w id sound None found = choose (may_join w id) _ _ (start_world laws w id sound found) tt

unmanaged_sound : (ms : List ManagerProcess) (answer : Result Accepted Refused) → (ms ≡ [] → SoundIf answer) → SoundIf (unmanaged ms answer)
unmanaged_sound [] answer each = each refl
unmanaged_sound (p ∷ ms) answer each = tt

module _ (laws : NodeLaws) (w : WorldState) (sound : IsWorld w) where
  pub acts_sound : (id : NodeId) (p : Process) (event : NodeEvent) → process_at id w.processes ≡ Some p → p.crashed ≡ false → IsNodeEvent event → IsStill event → (calls : ℕ) →
      IsWorld (record (with_step w id (node_step p.node event)) { calls = calls })
  acts_sound id p event found runs range still calls =
      let steady = event_steady p.node event still in
      step_world w id p (node_step p.node event) calls w.paces sound found (by_laws laws p.node event (node_at w id p sound found) range still) sound.clocks
      (clock_at w id p sound found runs ∙ ap (λ (n : ℕ). Some n) (sym steady.clock)) (λ b ne. refl)

  installs_world : w.managers ≡ [] → (n : ℕ) (o : Option View) → numbered n w.views ≡ o → (id : NodeId) (p : Process) → process_at id w.processes ≡ Some p → p.crashed ≡ false → SoundIf (installs_at o w id p.node)
  installs_world none n None at id p found runs = tt
  installs_world none n (Some view) at id p found runs = choose (is_member id view.members) _ _ (choose (nat_lt (epoch_of p.node) view.epoch) _ _ (guarded (find (may_run w.views view) w.processes)) tt) tt
    where
      guarded : (o : Option (NodeId × Process)) → SoundIf (guarded_by o w id p.node view)
      guarded None = acts_sound id p (NodeEvent.Install view) found runs (numbered_holds IsView n w.views view sound.each at) tt w.calls
      guarded (Some q) = tt

  ticks_sound : (to : ℕ) → to ≤ MAX_TIME → (id : NodeId) (p : Process) → process_at id w.processes ≡ Some p → p.crashed ≡ false → SoundIf (ticks_at w to id p.node)
  ticks_sound to range id p found runs = at (clock_step (clocks_of w) (ClockEvent.Tick (Node id) to)) refl
    where
      at : (r : Result ClockState ClockFault) → clock_step (clocks_of w) (ClockEvent.Tick (Node id) to) ≡ r → SoundIf (ticked_by r w id to p.node)
      at (Ok clocks) is = tick_world laws w id p to clocks sound found runs range is
      at (Err fault) is = tt

module _ (laws : NodeLaws) (of_managers : ManagerLaws) (w : WorldState) (sound : IsWorld w) where
  pub manages_sound : (m : ℕ) (p : ManagerProcess) (event : ManagerEvent) → manager_at m w.managers ≡ Some p → p.crashed ≡ false → IsManagerEvent event → IsSilent event → SoundIf (manager_acts w m (manager_step p.manager event))
  manages_sound m p event found runs range silent = at (manager_step p.manager event) refl
    where
      at : (r : Result ManagerStepped ManagerFault) → manager_step p.manager event ≡ r → SoundIf (manager_acts w m r)
      at (Ok stepped) is = manager_step_world w m p stepped sound found runs (by_manager_laws of_managers p.manager event (sound.managers m p found).manager range silent stepped is)
      at (Err fault) is = tt

  takes_sound : (n : ℕ) (o : Option Letter) → numbered n w.letters ≡ o → SoundIf (takes w o)
  takes_sound n None at = tt
  takes_sound n (Some letter) at =
      let range : IsLetter letter = numbered_holds IsLetter n w.letters letter sound.letters at in
      actor_sound w letter.to _ _ (λ id p found runs. acts_sound laws w sound id p (NodeEvent.Receive letter) found runs range tt w.calls) (λ m p found runs. manages_sound m p (ManagerEvent.Receive letter) found runs range tt)

  manager_ticks_sound : (to : ℕ) → to ≤ MAX_TIME → (m : ℕ) (p : ManagerProcess) → manager_at m w.managers ≡ Some p → p.crashed ≡ false → SoundIf (manager_ticks_at w to m p.manager)
  manager_ticks_sound to range m p found runs = at (clock_step (clocks_of w) (ClockEvent.Tick (Manager m) to)) refl
    where
      at : (r : Result ClockState ClockFault) → clock_step (clocks_of w) (ClockEvent.Tick (Manager m) to) ≡ r → SoundIf (manager_ticked_by r w m to p.manager)
      at (Ok clocks) is = manager_tick_world of_managers w m p to clocks sound found runs range is
      at (Err fault) is = tt

  all_sound : (to : ℕ) → to ≤ MAX_TIME → SoundIf (all_tick w to)
  all_sound to range = at (clock_step (clocks_of w) (ClockEvent.TickAll to)) refl
    where
      at : (r : Result ClockState ClockFault) → clock_step (clocks_of w) (ClockEvent.TickAll to) ≡ r → SoundIf (all_ticked_by r w to)
      at (Ok clocks) is = all_tick_world laws of_managers w to clocks sound range is
      at (Err fault) is = tt

  pub event_sound : (event : Event) → IsEvent event → SoundIf (world_step w event)
  event_sound (Call id key op) range = live_sound w id _ (λ p found runs. acts_sound laws w sound id p (NodeEvent.Call (record { 0 = w.calls + 1 }) key op) found runs tt tt (w.calls + 1))
  event_sound (Take letter) range = takes_sound letter (numbered letter w.letters) refl
  event_sound (Tick actor to) range = actor_sound w actor _ _ (ticks_sound laws w sound to range.1) (manager_ticks_sound to range.1)
  event_sound (TickAll to) range = all_sound to range
  event_sound (Crash actor) range = actor_sound w actor _ _ (λ id p found runs. crash_world w id p sound found) (λ m p found runs. manager_crash_world w m p sound found)
  event_sound (Resend id key) range = live_sound w id _ (λ p found runs. acts_sound laws w sound id p (NodeEvent.Resend key) found runs tt tt w.calls)
  event_sound (Replay id key) range = live_sound w id _ (λ p found runs. acts_sound laws w sound id p (NodeEvent.Replay key) found runs tt tt w.calls)
  event_sound (Copy id from room) range = live_sound w id _ (λ p found runs. acts_sound laws w sound id p (NodeEvent.AskCopy from room) found runs range tt w.calls)
  event_sound (Start id) range = starts_sound laws w id sound (process_at id w.processes) refl
  event_sound (Agree change) range = unmanaged_sound w.managers _ (agrees_sound w change sound)
  event_sound (Install id epoch) range = unmanaged_sound w.managers _ (λ none. live_sound w id _ (λ p found runs. installs_world laws w sound none epoch (numbered epoch w.views) refl id p found runs))
  event_sound (Lease id end) range = unmanaged_sound w.managers _ (λ none. live_sound w id _ (λ p found runs. choose (is_member id (last_view w.views).members) _ _ (acts_sound laws w sound id p (NodeEvent.Grant end) found runs range tt w.calls) tt))
  event_sound (AskLease id manager) range = live_sound w id _ (λ p found runs. acts_sound laws w sound id p (NodeEvent.AskLease manager) found runs tt tt w.calls)
  event_sound (Propose manager base change) range = manager_sound w manager _ (λ p found runs. manages_sound manager p (ManagerEvent.Propose base change) found runs tt tt)
  event_sound (Activate manager) range = manager_sound w manager _ (λ p found runs. manages_sound manager p ManagerEvent.Activate found runs tt tt)

pub step_sound : NodeLaws → ManagerLaws → (w : WorldState) (event : Event) (a : Accepted) → IsWorld w → IsEvent event → world_step w event ≡ Ok a → IsWorld a.world
step_sound laws of_managers w event a sound range made = subst SoundIf made (event_sound laws of_managers w sound event range)

-- ---- events by which an actor acts
pub act_parts : (event : NodeEvent) → IsAct event → IsNodeEvent event × IsStill event
act_parts (NodeEvent.Call call key op) is = (is, tt)
act_parts (NodeEvent.Receive letter) is = (is, tt)
act_parts (NodeEvent.Resend key) is = (is, tt)
act_parts (NodeEvent.Replay key) is = (is, tt)
act_parts (NodeEvent.AskLease manager) is = (is, tt)
act_parts (NodeEvent.AskCopy from room) is = (is, tt)
act_parts (NodeEvent.Tick now) is = absurd is
act_parts (NodeEvent.Grant end) is = (is, tt)
act_parts (NodeEvent.Install view) is = (is, tt)

pub manager_act_parts : (event : ManagerEvent) → IsManagerAct event → IsManagerEvent event × IsSilent event
manager_act_parts (ManagerEvent.Propose base change) is = (is, tt)
manager_act_parts (ManagerEvent.Receive letter) is = (is, tt)
manager_act_parts ManagerEvent.Activate is = (is, tt)
manager_act_parts (ManagerEvent.Tick now) is = absurd is
