-- What the code makes of clocks, of managers and of joiners, in the words of the definition.
use Rattle.std.proofs.Common.{◌≡◌, ◌++◌, ◌≤◌, ℕ, Bool, true, false, cond, List, [], ◌∷◌, length, map, Option, Some, None, Result, Ok, Err, refl, sym, ap, subst, ◌∙◌, append-nil}
use Rattle.std.specs.Prelude.{slice_set}
use Rattle.std.specs.Option.{option_map}
use Rattle.std.specs.Result.{IsErrAnd}
use Rattle.std.specs.List.Sorted.{IsStrictlySortedBy}
use Rattle.std.specs.BTreeMap.{is_at}
use Rattle.std.specs.Map.{keys_of, set_value, remove_entry}
use Rattle.std.proofs.lemmas.Map.Steps.{set_value_same}
use Rattle.hk_base.specs.declared.stamp.NodeId.{NodeId}
use Rattle.hk_base.specs.declared.view.View.{View}
use Rattle.hk_base.specs.declared.letter.Actor.{Actor}
use Rattle.hk_base.specs.declared.letter.Actor.TheVariants.{Node, Manager}
use Rattle.hk_base.specs.declared.letter.Letter.{Letter}
use Rattle.hk_clocks.specs.declared.fault.ClockFault.{ClockFault}
use Rattle.hk_clocks.specs.declared.fault.ClockFault.TheVariants as ClockFault
use Rattle.hk_clocks.specs.declared.pace.Pace.{Pace}
use Rattle.hk_clocks.specs.Clocks.{ClockState, Paces, pace_of, clock_of}
use Rattle.hk_clocks.specs.Steps.{ClockEvent, clock_step, starts, stops, greatest_clock}
use Rattle.hk_clocks.specs.Runs.{made_or}
use Rattle.hk_clocks.specs.Outs.{IsAnswerOf as IsClockAnswer}
use Rattle.hk_manager.specs.declared.event.ManagerEvent.{ManagerEvent}
use Rattle.hk_manager.specs.declared.fault.ManagerFault.{ManagerFault}
use Rattle.hk_manager.specs.declared.fault.ManagerFault.TheVariants as ManagerFault
use Rattle.hk_manager.specs.declared.out.ManagerOut.{ManagerOut}
use Rattle.hk_manager.specs.Manager.{ManagerState}
use Rattle.hk_manager.specs.Steps.{ManagerStepped, manager_step, manager_ticks}
use Rattle.hk_manager.specs.Outs.{made, IsStepOf as IsManagerStep}
use Rattle.hk_node.specs.declared.report.Report.{Report as Told}
use Rattle.hk_node.specs.Node.{NodeState}
use Rattle.hk_node.specs.Report.{report}
use Rattle.hk_node.specs.Steps.{ticks}
use Rattle.hk_world.specs.declared.process.Process.{Process}
use Rattle.hk_world.specs.declared.process.ManagerProcess.{ManagerProcess}
use Rattle.hk_world.specs.declared.shown.Shown.{Shown}
use Rattle.hk_event.specs.declared.refused.Refused.{Refused}
use Rattle.hk_event.specs.declared.refused.Refused.TheVariants.{Crashed, NotMember}
use Rattle.hk_world.specs.declared.fault.WorldFault.{WorldFault}
use Rattle.hk_world.specs.World.{WorldState, Processes, by_number, process_at, put_process, manager_at, put_manager, clocks_of, paces_by}
use Rattle.hk_world.specs.Steps.{Accepted, live, live_manager, live_manager_at, managing_at, nothing, clock_refusal, manager_refusal, ticks_at, ticked_by, manager_ticks_at, manager_ticked_by, all_tick, all_ticked_by, process_ticked, manager_ticked, crashes_at, manager_crashes_at, manages, manager_acts, learned, joining, may_join, starts_at}
use Rattle.hk_world.specs.Faults.{clock_fault, manager_fault}
use Rattle.hk_world.specs.Posted.{rested, manager_posted}
use Rattle.hk_world.specs.Allowed.{joined}
use Rattle.hk_world.specs.Sound.{IsAnswerOf}
use Rattle.hk_world.proofs.Answering.{runs_is}
use Rattle.hk_world.proofs.Built.{built}
use Rattle.hk_world.proofs.Processes.{set_is_put, taken_out}

-- ---- all as it was
pub back : (w : WorldState) (ps : Processes) (ms : List ManagerProcess) (paces : Paces) (letters : List Letter) (views : List View) → ps ≡ w.processes → ms ≡ w.managers → paces ≡ w.paces → letters ≡ w.letters → views ≡ w.views →
    built w ps ms paces letters views w.calls ≡ w
back w ps ms paces letters views p m c l v =
    ap (λ (x : Processes). built w x ms paces letters views w.calls) p
    ∙ ap (λ (x : List ManagerProcess). built w w.processes x paces letters views w.calls) m
    ∙ ap (λ (x : Paces). built w w.processes w.managers x letters views w.calls) c
    ∙ ap (λ (x : List Letter). built w w.processes w.managers w.paces x views w.calls) l
    ∙ ap (λ (x : List View). built w w.processes w.managers w.paces w.letters x w.calls) v

pub same_entries : (id : NodeId) (p : Process) (ps entries : Processes) → process_at id ps ≡ Some p → entries ≡ set_value (is_at (by_number id)) ps p → entries ≡ ps
same_entries id p ps entries found put = put ∙ set_value_same (is_at (by_number id)) ps p found

-- ---- refusals
err_is : (r : Result Shown WorldFault) (f : WorldFault) → IsErrAnd r (λ e. e ≡ f) → r ≡ Err f
err_is (Ok shown) f e = absurd e
err_is (Err g) f e = ap (λ (x : WorldFault). Err x) e

pub clock_kept : (fault : ClockFault) (c n : ClockState) (step : Result ClockState ClockFault) → IsClockAnswer (Err fault) c n step → n ≡ c
clock_kept ClockFault.Memory c n step told = told
clock_kept ClockFault.Live c n step told = told.1
clock_kept ClockFault.NotLive c n step told = told.1
clock_kept (ClockFault.ClockFalls clock) c n step told = told.1
clock_kept (ClockFault.Skew to other) c n step told = told.1

-- what clocks refuse, the world refuses
pub clock_refuses : (r : Result Shown WorldFault) (fault : ClockFault) (old new : WorldState) (c n : ClockState) (step : Result ClockState ClockFault) (by : Result ClockState ClockFault → Result Accepted Refused) (answer : Result Accepted Refused) →
    IsErrAnd r (λ e. e ≡ clock_fault fault) → IsClockAnswer (Err fault) c n step → ((f : ClockFault) → by (Err f) ≡ Err (clock_refusal f)) → answer ≡ by step → new ≡ old → IsAnswerOf r old new answer
clock_refuses r fault old new c n step by answer err told each is same = subst (λ (x : Result Shown WorldFault). IsAnswerOf x old new answer) (sym (err_is r (clock_fault fault) err)) (at fault told)
  where
    at : (f : ClockFault) → IsClockAnswer (Err f) c n step → IsAnswerOf (Err (clock_fault f)) old new answer
    at ClockFault.Memory t = same
    at ClockFault.Live t = (is ∙ ap by t.0 ∙ each ClockFault.Live, same)
    at ClockFault.NotLive t = (is ∙ ap by t.0 ∙ each ClockFault.NotLive, same)
    at (ClockFault.ClockFalls clock) t = (is ∙ ap by t.0 ∙ each (ClockFault.ClockFalls clock), same)
    at (ClockFault.Skew to other) t = (is ∙ ap by t.0 ∙ each (ClockFault.Skew to other), same)

-- what clocks do not refuse, only want of memory can stop
pub clock_wants : (fault : ClockFault) (old new : WorldState) (c n : ClockState) (step : Result ClockState ClockFault) (answer : Result Accepted Refused) →
    IsClockAnswer (Err fault) c n step → ((f : ClockFault) → step ≡ Err f → ⊥) → new ≡ old → IsAnswerOf (Err (clock_fault fault)) old new answer
clock_wants ClockFault.Memory old new c n step answer told never same = same
clock_wants ClockFault.Live old new c n step answer told never same = absurd (never ClockFault.Live told.0)
clock_wants ClockFault.NotLive old new c n step answer told never same = absurd (never ClockFault.NotLive told.0)
clock_wants (ClockFault.ClockFalls clock) old new c n step answer told never same = absurd (never (ClockFault.ClockFalls clock) told.0)
clock_wants (ClockFault.Skew to other) old new c n step answer told never same = absurd (never (ClockFault.Skew to other) told.0)

pub clock_wants_as : (r : Result Shown WorldFault) (fault : ClockFault) (old new : WorldState) (c n : ClockState) (step : Result ClockState ClockFault) (answer : Result Accepted Refused) → IsErrAnd r (λ e. e ≡ clock_fault fault) →
    IsClockAnswer (Err fault) c n step → ((f : ClockFault) → step ≡ Err f → ⊥) → new ≡ old → IsAnswerOf r old new answer
clock_wants_as r fault old new c n step answer err told never same =
    subst (λ (x : Result Shown WorldFault). IsAnswerOf x old new answer) (sym (err_is r (clock_fault fault) err)) (clock_wants fault old new c n step answer told never same)

pub clock_wants_from : (f : WorldFault) (fault : ClockFault) (old new : WorldState) (c n : ClockState) (step : Result ClockState ClockFault) (answer : Result Accepted Refused) → f ≡ clock_fault fault →
    IsClockAnswer (Err fault) c n step → ((g : ClockFault) → step ≡ Err g → ⊥) → new ≡ old → IsAnswerOf (Err f) old new answer
clock_wants_from f fault old new c n step answer is told never same = subst (λ (x : WorldFault). IsAnswerOf (Err x) old new answer) (sym is) (clock_wants fault old new c n step answer told never same)

pub manager_kept : (fault : ManagerFault) (m n : ManagerState) (step : Result ManagerStepped ManagerFault) → IsManagerStep (Err fault) m n step → n ≡ m
manager_kept ManagerFault.Memory m n step told = told
manager_kept (ManagerFault.Behind held) m n step told = told.1
manager_kept ManagerFault.NoSuchMember m n step told = told.1
manager_kept ManagerFault.LastMember m n step told = told.1
manager_kept ManagerFault.Full m n step told = told.1
manager_kept ManagerFault.NoNumbers m n step told = told.1
manager_kept (ManagerFault.NotPast node end) m n step told = told.1

-- what a manager refuses, the world refuses
pub manager_refuses : (r : Result Shown WorldFault) (fault : ManagerFault) (w old new : WorldState) (k : ℕ) (m n : ManagerState) (step : Result ManagerStepped ManagerFault) (answer : Result Accepted Refused) →
    IsErrAnd r (λ e. e ≡ manager_fault fault) → IsManagerStep (Err fault) m n step → answer ≡ manager_acts w k step → new ≡ old → IsAnswerOf r old new answer
manager_refuses r fault w old new k m n step answer err told is same = subst (λ (x : Result Shown WorldFault). IsAnswerOf x old new answer) (sym (err_is r (manager_fault fault) err)) (at fault told)
  where
    at : (f : ManagerFault) → IsManagerStep (Err f) m n step → IsAnswerOf (Err (manager_fault f)) old new answer
    at ManagerFault.Memory t = same
    at (ManagerFault.Behind held) t = (is ∙ ap (manager_acts w k) (sym t.0), same)
    at ManagerFault.NoSuchMember t = (is ∙ ap (manager_acts w k) (sym t.0), same)
    at ManagerFault.LastMember t = (is ∙ ap (manager_acts w k) (sym t.0), same)
    at ManagerFault.Full t = (is ∙ ap (manager_acts w k) (sym t.0), same)
    at ManagerFault.NoNumbers t = (is ∙ ap (manager_acts w k) (sym t.0), same)
    at (ManagerFault.NotPast node end) t = (is ∙ ap (manager_acts w k) (sym t.0), same)

-- ---- a live manager
manager_is : (w : WorldState) (m : ℕ) (p : ManagerProcess) (step : ManagerState → Result Accepted Refused) → manager_at m w.managers ≡ Some p → live_manager w m step ≡ managing_at p.crashed p.manager step
manager_is w m p step found = ap (λ (o : Option ManagerProcess). live_manager_at o step) found

pub manager_crashed_is : (w old : WorldState) (m : ℕ) (p : ManagerProcess) (step : WorldState → ManagerState → Result Accepted Refused) → w ≡ old → manager_at m w.managers ≡ Some p → p.crashed ≡ true → live_manager old m (step old) ≡ Err Crashed
manager_crashed_is w old m p step same found crashed =
    subst (λ (o : WorldState). live_manager o m (step o) ≡ Err Crashed) same (manager_is w m p (step w) found ∙ ap (λ (b : Bool). managing_at b p.manager (step w)) crashed)

pub manager_runs_is : (w old : WorldState) (m : ℕ) (p : ManagerProcess) (step : WorldState → ManagerState → Result Accepted Refused) → w ≡ old → manager_at m w.managers ≡ Some p → p.crashed ≡ false → live_manager old m (step old) ≡ step w p.manager
manager_runs_is w old m p step same found runs =
    subst (λ (o : WorldState). live_manager o m (step o) ≡ step w p.manager) same (manager_is w m p (step w) found ∙ ap (λ (b : Bool). managing_at b p.manager (step w)) runs)

-- ---- the clocks of a world, as the code keeps them
abbrev clocks_with : ℕ → Paces → ClockState
clocks_with skew paces = record { skew = skew; paces = paces }

pub clocks_are : (skew : ℕ) (c : ClockState) → c.skew ≡ skew → clocks_with skew c.paces ≡ c
clocks_are skew c same = ap (λ (n : ℕ). clocks_with n c.paces) (sym same)

pub paces_made : (w : WorldState) (c n : ClockState) (event : ClockEvent) → clocks_of w ≡ c → clock_step c event ≡ Ok n → paces_by w event ≡ n.paces
paces_made w c n event clocks is = ap (λ (x : ClockState). (made_or x (clock_step x event)).paces) clocks ∙ ap (λ (r : Result ClockState ClockFault). (made_or c r).paces) is

-- a live actor stops, and one that has no clock starts
pub stops_live : (c : ClockState) (a : Actor) (clock : ℕ) → clock_of c.paces a ≡ Some clock → (f : ClockFault) → clock_step c (ClockEvent.Stop a) ≡ Err f → ⊥
stops_live c a clock is f e = at (pace_of c.paces a) is e
  where
    at : (o : Option Pace) → option_map (λ pace. pace.clock) o ≡ Some clock → stops o c a ≡ Err f → ⊥
    at None h g = absurd cc
    at (Some pace) h g = absurd cc

pub starts_none : (c : ClockState) (a : Actor) (clock : ℕ) → clock_of c.paces a ≡ None → (f : ClockFault) → clock_step c (ClockEvent.Start a clock) ≡ Err f → ⊥
starts_none c a clock is f e = at (pace_of c.paces a) is e
  where
    at : (o : Option Pace) → option_map (λ pace. pace.clock) o ≡ None → starts o c a clock ≡ Err f → ⊥
    at None h g = absurd cc
    at (Some pace) h g = absurd cc

abbrev answer_with : WorldState → Processes → List ManagerProcess → Paces → List Letter → List View → Shown → Result Accepted Refused
answer_with w ps ms paces letters views shown = Ok (record { world = built w ps ms paces letters views w.calls; told = []; shown = shown })

abbrev process_with : Bool → NodeState → Process
process_with crashed node = record { node = node; crashed = crashed }

abbrev manager_with : Bool → ManagerState → ManagerProcess
manager_with crashed manager = record { manager = manager; crashed = crashed }

-- ---- the tick of a node
pub node_tick_at : (w old : WorldState) (id : NodeId) (p : Process) (to : ℕ) (c : ClockState) → w ≡ old → process_at id w.processes ≡ Some p → p.crashed ≡ false → clocks_of w ≡ c →
    live old id (ticks_at old to id) ≡ ticked_by (clock_step c (ClockEvent.Tick (Node id) to)) w id to p.node
node_tick_at w old id p to c same found runs clocks =
    runs_is w old id p (λ (o : WorldState). ticks_at o to id) same found runs ∙ ap (λ (x : ClockState). ticked_by (clock_step x (ClockEvent.Tick (Node id) to)) w id to p.node) clocks

pub node_put : (id : NodeId) (p : Process) (ps entries : Processes) (after stepped : NodeState) → process_at id ps ≡ Some p → p.crashed ≡ false → IsStrictlySortedBy by_number (keys_of ps) → after ≡ stepped →
    entries ≡ set_value (is_at (by_number id)) ps (record { node = after; crashed = p.crashed }) → entries ≡ put_process id (record { node = stepped; crashed = false }) ps
node_put id p ps entries after stepped found runs sorted same put =
    put ∙ ap (λ (n : NodeState). set_value (is_at (by_number id)) ps (process_with p.crashed n)) same ∙ ap (λ (b : Bool). set_value (is_at (by_number id)) ps (process_with b stepped)) runs
    ∙ set_is_put id (process_with false stepped) p ps sorted found

pub node_ticked : (w old : WorldState) (id : NodeId) (p : Process) (to : ℕ) (c n : ClockState) (entries : Processes) (after : NodeState) (told : Told) (shown : Shown) → w ≡ old → process_at id w.processes ≡ Some p → p.crashed ≡ false → clocks_of w ≡ c →
    clock_step c (ClockEvent.Tick (Node id) to) ≡ Ok n → after ≡ (ticks p.node to).node → entries ≡ put_process id (record { node = (ticks p.node to).node; crashed = false }) w.processes → told ≡ report p.node after → shown ≡ rested id told →
    live old id (ticks_at old to id) ≡ answer_with w entries w.managers n.paces w.letters w.views shown
node_ticked w old id p to c n entries after told shown same found runs clocks is node put reports shows =
    let shows_it : shown ≡ rested id (report p.node (ticks p.node to).node) = shows ∙ ap (rested id) (reports ∙ ap (report p.node) node) in
    node_tick_at w old id p to c same found runs clocks ∙ ap (λ (r : Result ClockState ClockFault). ticked_by r w id to p.node) is
    ∙ ap (λ (es : Processes). answer_with w es w.managers n.paces (w.letters ++ []) w.views (rested id (report p.node (ticks p.node to).node))) (sym put)
    ∙ ap (λ (ls : List Letter). answer_with w entries w.managers n.paces ls w.views (rested id (report p.node (ticks p.node to).node))) (append-nil w.letters)
    ∙ ap (λ (s : Shown). answer_with w entries w.managers n.paces w.letters w.views s) (sym shows_it)

-- the world after it
pub node_ticked_world : (w : WorldState) (id : NodeId) (to : ℕ) (node : NodeState) (n : ClockState) (entries : Processes) → entries ≡ put_process id (record { node = (ticks node to).node; crashed = false }) w.processes →
    built w (put_process id (record { node = (ticks node to).node; crashed = false }) w.processes) w.managers n.paces (w.letters ++ []) w.views w.calls ≡ built w entries w.managers n.paces w.letters w.views w.calls
node_ticked_world w id to node n entries put =
    ap (λ (es : Processes). built w es w.managers n.paces (w.letters ++ []) w.views w.calls) (sym put) ∙ ap (λ (ls : List Letter). built w entries w.managers n.paces ls w.views w.calls) (append-nil w.letters)

-- ---- a manager that is put
pub manager_put : (m k : ℕ) (p : ManagerProcess) (ms entries : List ManagerProcess) (after stepped : ManagerState) → k ≡ m → p.crashed ≡ false → after ≡ stepped →
    entries ≡ slice_set ms k (record { manager = after; crashed = p.crashed }) → entries ≡ put_manager m (record { manager = stepped; crashed = false }) ms
manager_put m k p ms entries after stepped at runs same put =
    put ∙ ap (λ (i : ℕ). slice_set ms i (manager_with p.crashed after)) at ∙ ap (λ (n : ManagerState). slice_set ms m (manager_with p.crashed n)) same ∙ ap (λ (b : Bool). slice_set ms m (manager_with b stepped)) runs

-- ---- the tick of a manager
pub manager_tick_at : (w old : WorldState) (m : ℕ) (p : ManagerProcess) (to : ℕ) (c : ClockState) → w ≡ old → manager_at m w.managers ≡ Some p → p.crashed ≡ false → clocks_of w ≡ c →
    live_manager old m (manager_ticks_at old to m) ≡ manager_ticked_by (clock_step c (ClockEvent.Tick (Manager m) to)) w m to p.manager
manager_tick_at w old m p to c same found runs clocks =
    manager_runs_is w old m p (λ (o : WorldState). manager_ticks_at o to m) same found runs ∙ ap (λ (x : ClockState). manager_ticked_by (clock_step x (ClockEvent.Tick (Manager m) to)) w m to p.manager) clocks

pub manager_ticked_is : (w old : WorldState) (m : ℕ) (p : ManagerProcess) (to : ℕ) (c n : ClockState) (entries : List ManagerProcess) (shown : Shown) → w ≡ old → manager_at m w.managers ≡ Some p → p.crashed ≡ false → clocks_of w ≡ c →
    clock_step c (ClockEvent.Tick (Manager m) to) ≡ Ok n → entries ≡ put_manager m (record { manager = (manager_ticks p.manager to).manager; crashed = false }) w.managers → shown ≡ nothing →
    live_manager old m (manager_ticks_at old to m) ≡ answer_with w w.processes entries n.paces w.letters w.views shown
manager_ticked_is w old m p to c n entries shown same found runs clocks is put shows =
    manager_tick_at w old m p to c same found runs clocks ∙ ap (λ (r : Result ClockState ClockFault). manager_ticked_by r w m to p.manager) is
    ∙ ap (λ (es : List ManagerProcess). answer_with w w.processes es n.paces w.letters w.views nothing) (sym put)
    ∙ ap (λ (s : Shown). answer_with w w.processes entries n.paces w.letters w.views s) (sym shows)

-- ---- the tick of all
pub all_tick_at : (w old : WorldState) (to : ℕ) (c : ClockState) → w ≡ old → clocks_of w ≡ c → all_tick old to ≡ all_ticked_by (clock_step c (ClockEvent.TickAll to)) w to
all_tick_at w old to c same clocks = ap (λ (o : WorldState). all_tick o to) (sym same) ∙ ap (λ (x : ClockState). all_ticked_by (clock_step x (ClockEvent.TickAll to)) w to) clocks

pub all_ticked_is : (w old : WorldState) (to : ℕ) (c n : ClockState) (ps : Processes) (ms : List ManagerProcess) (shown : Shown) → w ≡ old → clocks_of w ≡ c → clock_step c (ClockEvent.TickAll to) ≡ Ok n →
    ps ≡ map (process_ticked to) w.processes → ms ≡ map (manager_ticked to) w.managers → shown ≡ nothing → all_tick old to ≡ answer_with w ps ms n.paces w.letters w.views shown
all_ticked_is w old to c n ps ms shown same clocks is p m shows =
    all_tick_at w old to c same clocks ∙ ap (λ (r : Result ClockState ClockFault). all_ticked_by r w to) is
    ∙ ap (λ (x : Processes). answer_with w x (map (manager_ticked to) w.managers) n.paces w.letters w.views nothing) (sym p)
    ∙ ap (λ (x : List ManagerProcess). answer_with w ps x n.paces w.letters w.views nothing) (sym m)
    ∙ ap (λ (s : Shown). answer_with w ps ms n.paces w.letters w.views s) (sym shows)

-- ---- crashes
pub crash_put : (id : NodeId) (p : Process) (ps entries : Processes) → process_at id ps ≡ Some p → IsStrictlySortedBy by_number (keys_of ps) → entries ≡ set_value (is_at (by_number id)) ps (record { node = p.node; crashed = true }) →
    entries ≡ put_process id (record { node = p.node; crashed = true }) ps
crash_put id p ps entries found sorted put = put ∙ set_is_put id (process_with true p.node) p ps sorted found

pub crash_is : (w old : WorldState) (id : NodeId) (p : Process) (c n : ClockState) (entries : Processes) (shown : Shown) → w ≡ old → process_at id w.processes ≡ Some p → p.crashed ≡ false → clocks_of w ≡ c →
    clock_step c (ClockEvent.Stop (Node id)) ≡ Ok n → entries ≡ put_process id (record { node = p.node; crashed = true }) w.processes → shown ≡ nothing →
    live old id (crashes_at old id) ≡ answer_with w entries w.managers n.paces w.letters w.views shown
crash_is w old id p c n entries shown same found runs clocks is put shows =
    runs_is w old id p (λ (o : WorldState). crashes_at o id) same found runs
    ∙ ap (λ (es : Processes). answer_with w es w.managers (paces_by w (ClockEvent.Stop (Node id))) w.letters w.views nothing) (sym put)
    ∙ ap (λ (x : Paces). answer_with w entries w.managers x w.letters w.views nothing) (paces_made w c n (ClockEvent.Stop (Node id)) clocks is)
    ∙ ap (λ (s : Shown). answer_with w entries w.managers n.paces w.letters w.views s) (sym shows)

pub crash_made : (w : WorldState) (id : NodeId) (node : NodeState) (c n : ClockState) (entries : Processes) → clocks_of w ≡ c → clock_step c (ClockEvent.Stop (Node id)) ≡ Ok n → entries ≡ put_process id (record { node = node; crashed = true }) w.processes →
    built w (put_process id (record { node = node; crashed = true }) w.processes) w.managers (paces_by w (ClockEvent.Stop (Node id))) w.letters w.views w.calls ≡ built w entries w.managers n.paces w.letters w.views w.calls
crash_made w id node c n entries clocks is put =
    ap (λ (es : Processes). built w es w.managers (paces_by w (ClockEvent.Stop (Node id))) w.letters w.views w.calls) (sym put)
    ∙ ap (λ (x : Paces). built w entries w.managers x w.letters w.views w.calls) (paces_made w c n (ClockEvent.Stop (Node id)) clocks is)

pub manager_crash_is : (w old : WorldState) (m : ℕ) (p : ManagerProcess) (c n : ClockState) (entries : List ManagerProcess) (shown : Shown) → w ≡ old → manager_at m w.managers ≡ Some p → p.crashed ≡ false → clocks_of w ≡ c →
    clock_step c (ClockEvent.Stop (Manager m)) ≡ Ok n → entries ≡ put_manager m (record { manager = p.manager; crashed = true }) w.managers → shown ≡ nothing →
    live_manager old m (manager_crashes_at old m) ≡ answer_with w w.processes entries n.paces w.letters w.views shown
manager_crash_is w old m p c n entries shown same found runs clocks is put shows =
    manager_runs_is w old m p (λ (o : WorldState). manager_crashes_at o m) same found runs
    ∙ ap (λ (es : List ManagerProcess). answer_with w w.processes es (paces_by w (ClockEvent.Stop (Manager m))) w.letters w.views nothing) (sym put)
    ∙ ap (λ (x : Paces). answer_with w w.processes entries x w.letters w.views nothing) (paces_made w c n (ClockEvent.Stop (Manager m)) clocks is)
    ∙ ap (λ (s : Shown). answer_with w w.processes entries n.paces w.letters w.views s) (sym shows)

pub manager_crash_made : (w : WorldState) (m : ℕ) (manager : ManagerState) (c n : ClockState) (entries : List ManagerProcess) → clocks_of w ≡ c → clock_step c (ClockEvent.Stop (Manager m)) ≡ Ok n →
    entries ≡ put_manager m (record { manager = manager; crashed = true }) w.managers →
    built w w.processes (put_manager m (record { manager = manager; crashed = true }) w.managers) (paces_by w (ClockEvent.Stop (Manager m))) w.letters w.views w.calls ≡ built w w.processes entries n.paces w.letters w.views w.calls
manager_crash_made w m manager c n entries clocks is put =
    ap (λ (es : List ManagerProcess). built w w.processes es (paces_by w (ClockEvent.Stop (Manager m))) w.letters w.views w.calls) (sym put)
    ∙ ap (λ (x : Paces). built w w.processes entries x w.letters w.views w.calls) (paces_made w c n (ClockEvent.Stop (Manager m)) clocks is)

-- ---- a manager's step
pub manages_at : (w old : WorldState) (m : ℕ) (p : ManagerProcess) (event : ManagerEvent) → w ≡ old → manager_at m w.managers ≡ Some p → p.crashed ≡ false → manages old m event ≡ manager_acts w m (manager_step p.manager event)
manages_at w old m p event same found runs = manager_runs_is w old m p (λ (o : WorldState) (manager : ManagerState). manager_acts o m (manager_step manager event)) same found runs

pub manages_is : (w old : WorldState) (m : ℕ) (p : ManagerProcess) (event : ManagerEvent) (mid : ManagerState) (out : ManagerOut) (entries : List ManagerProcess) (letters : List Letter) (views : List View) (shown : Shown) →
    w ≡ old → manager_at m w.managers ≡ Some p → p.crashed ≡ false → Ok (made mid out) ≡ manager_step p.manager event → entries ≡ put_manager m (record { manager = mid; crashed = false }) w.managers →
    letters ≡ w.letters ++ out.letters → views ≡ learned w.views mid.held → shown ≡ manager_posted w.letters m mid out → manages old m event ≡ answer_with w w.processes entries w.paces letters views shown
manages_is w old m p event mid out entries letters views shown same found runs is put sent learns shows =
    manages_at w old m p event same found runs ∙ ap (manager_acts w m) (sym is)
    ∙ ap (λ (x : List ManagerProcess). answer_with w w.processes x w.paces (w.letters ++ out.letters) (learned w.views mid.held) (manager_posted w.letters m mid out)) (sym put)
    ∙ ap (λ (x : List Letter). answer_with w w.processes entries w.paces x (learned w.views mid.held) (manager_posted w.letters m mid out)) (sym sent)
    ∙ ap (λ (x : List View). answer_with w w.processes entries w.paces letters x (manager_posted w.letters m mid out)) (sym learns)
    ∙ ap (λ (s : Shown). answer_with w w.processes entries w.paces letters views s) (sym shows)

pub manages_made : (w : WorldState) (m : ℕ) (mid : ManagerState) (out : ManagerOut) (entries : List ManagerProcess) (letters : List Letter) (views : List View) → entries ≡ put_manager m (record { manager = mid; crashed = false }) w.managers →
    letters ≡ w.letters ++ out.letters → views ≡ learned w.views mid.held →
    built w w.processes (put_manager m (record { manager = mid; crashed = false }) w.managers) w.paces (w.letters ++ out.letters) (learned w.views mid.held) w.calls ≡ built w w.processes entries w.paces letters views w.calls
manages_made w m mid out entries letters views put sent learns =
    ap (λ (x : List ManagerProcess). built w w.processes x w.paces (w.letters ++ out.letters) (learned w.views mid.held) w.calls) (sym put)
    ∙ ap (λ (x : List Letter). built w w.processes entries w.paces x (learned w.views mid.held) w.calls) (sym sent)
    ∙ ap (λ (x : List View). built w w.processes entries w.paces letters x w.calls) (sym learns)

-- ---- starts
abbrev starting : WorldState → NodeId → Bool → Result Accepted Refused
starting w id may = cond may (answer_with w (put_process id (joining w id) w.processes) w.managers (paces_by w (ClockEvent.Start (Node id) (greatest_clock 1 w.paces))) w.letters w.views nothing) (Err NotMember)

pub start_is : (w old : WorldState) (id : NodeId) (clock : ℕ) (process : Process) (c n : ClockState) (entries : Processes) (shown : Shown) → w ≡ old → process_at id w.processes ≡ None → may_join w id ≡ true → clocks_of w ≡ c →
    clock ≡ greatest_clock 1 w.paces → process ≡ joined id w.skew (length w.managers) clock → entries ≡ put_process id process w.processes → clock_step c (ClockEvent.Start (Node id) clock) ≡ Ok n → shown ≡ nothing →
    starts_at (process_at id old.processes) old id ≡ answer_with w entries w.managers n.paces w.letters w.views shown
start_is w old id clock process c n entries shown same none may clocks reads joins put is shows =
    let joins_it : entries ≡ put_process id (joining w id) w.processes = put ∙ ap (λ (p : Process). put_process id p w.processes) (joins ∙ ap (joined id w.skew (length w.managers)) reads) in
    let started : paces_by w (ClockEvent.Start (Node id) (greatest_clock 1 w.paces)) ≡ n.paces = ap (λ (k : ℕ). paces_by w (ClockEvent.Start (Node id) k)) (sym reads) ∙ paces_made w c n (ClockEvent.Start (Node id) clock) clocks is in
    ap (λ (o : WorldState). starts_at (process_at id o.processes) o id) (sym same)
    ∙ ap (λ (o : Option Process). starts_at o w id) none
    ∙ ap (starting w id) may
    ∙ ap (λ (x : Processes). answer_with w x w.managers (paces_by w (ClockEvent.Start (Node id) (greatest_clock 1 w.paces))) w.letters w.views nothing) (sym joins_it)
    ∙ ap (λ (x : Paces). answer_with w entries w.managers x w.letters w.views nothing) started
    ∙ ap (λ (s : Shown). answer_with w entries w.managers n.paces w.letters w.views s) (sym shows)

pub start_made : (w : WorldState) (id : NodeId) (clock : ℕ) (process : Process) (c n : ClockState) (entries : Processes) → clocks_of w ≡ c → clock ≡ greatest_clock 1 w.paces → process ≡ joined id w.skew (length w.managers) clock →
    entries ≡ put_process id process w.processes → clock_step c (ClockEvent.Start (Node id) clock) ≡ Ok n →
    built w (put_process id (joining w id) w.processes) w.managers (paces_by w (ClockEvent.Start (Node id) (greatest_clock 1 w.paces))) w.letters w.views w.calls ≡ built w entries w.managers n.paces w.letters w.views w.calls
start_made w id clock process c n entries clocks reads joins put is =
    let joins_it : entries ≡ put_process id (joining w id) w.processes = put ∙ ap (λ (p : Process). put_process id p w.processes) (joins ∙ ap (joined id w.skew (length w.managers)) reads) in
    ap (λ (x : Processes). built w x w.managers (paces_by w (ClockEvent.Start (Node id) (greatest_clock 1 w.paces))) w.letters w.views w.calls) (sym joins_it)
    ∙ ap (λ (x : Paces). built w entries w.managers x w.letters w.views w.calls) (ap (λ (k : ℕ). paces_by w (ClockEvent.Start (Node id) k)) (sym reads) ∙ paces_made w c n (ClockEvent.Start (Node id) clock) clocks is)

-- given up again
pub start_back : (id : NodeId) (process : Process) (ps put out : Processes) → process_at id ps ≡ None → put ≡ put_process id process ps → out ≡ remove_entry (is_at (by_number id)) put → out ≡ ps
start_back id process ps put out none is taken = taken ∙ ap (remove_entry (is_at (by_number id))) is ∙ taken_out id process ps none

-- a joiner knows how many managers there are
pub managers_counted : (id : NodeId) (skew n count clock : ℕ) (process : Process) → n ≡ count → process ≡ joined id skew n clock → process ≡ joined id skew count clock
managers_counted id skew n count clock process same is = is ∙ ap (λ (k : ℕ). joined id skew k clock) same
