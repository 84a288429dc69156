-- An event that is accepted has passed its checks: what is left is a node's step, or a change beside the nodes.
use Rattle.std.proofs.Common.{◌≡◌, ℕ, Bool, true, false, cond, not, ◌+◌, List, [], ◌∷◌, ◌++◌, ◌⊎◌, ◌||◌, map, length, ◌<◌, refl, sym, ap, subst, ◌∙◌, ⊎_elim, arith, le_refl, inl, inr, Option, Some, None, Result, Ok, Err, eqb, ltb, leb}
use Rattle.std.specs.List.{filter, find, list_any}
use Rattle.std.proofs.lemmas.Bool.{ltb-true}
use Rattle.hk_base.specs.declared.stamp.NodeId.{NodeId}
use Rattle.hk_base.specs.declared.letter.Actor.{Actor}
use Rattle.hk_base.specs.declared.letter.Actor.TheVariants as Actor
use Rattle.hk_base.specs.declared.letter.Letter.{Letter}
use Rattle.hk_base.specs.declared.view.View.{View}
use Rattle.hk_base.specs.declared.view.Change.{Change}
use Rattle.hk_base.specs.declared.view.Change.TheVariants.{Drop, Add}
use Rattle.hk_base.specs.View.{member_numbers, is_member}
use Rattle.hk_clocks.specs.Clocks.{ClockState, Paces}
use Rattle.hk_clocks.specs.declared.fault.ClockFault.{ClockFault}
use Rattle.hk_clocks.specs.Steps.{clock_step}
use Rattle.hk_clocks.specs.Steps.{ClockEvent}
use Rattle.hk_clocks.specs.Steps.{greatest_clock}
use Rattle.hk_manager.specs.declared.event.ManagerEvent.TheVariants as ManagerEvent
use Rattle.hk_manager.specs.declared.fault.ManagerFault.{ManagerFault}
use Rattle.hk_manager.specs.Manager.{ManagerState}
use Rattle.hk_manager.specs.Steps.{ManagerStepped, manager_step, manager_ticks}
use Rattle.hk_register.specs.Machine.{In}
use Rattle.hk_node.specs.Node.{NodeState, epoch_of}
use Rattle.hk_node.specs.Stepped.{Stepped}
use Rattle.hk_node.specs.Steps.{receives, installs, ticks, grants}
use Rattle.hk_event.specs.declared.event.Event.TheVariants.{Propose, Activate}
use Rattle.hk_world.specs.declared.process.Process.{Process}
use Rattle.hk_world.specs.declared.process.ManagerProcess.{ManagerProcess}
use Rattle.hk_event.specs.declared.refused.Refused.{Refused}
use Rattle.hk_event.specs.declared.refused.Refused.TheVariants.{NotMember, Behind, NoSuchMember, LastMember, Full, NoNumbers}
use Rattle.hk_world.specs.World.{WorldState, Processes, process_at, put_process, manager_at, put_manager, clocks_of, paces_by, numbered, last_view}
use Rattle.hk_world.specs.Steps.{Accepted, acts, aside, nothing, running_at, live_at, live, managing_at, live_manager_at, live_manager, manager_acts, with_manager_step, manager_shown, manager_ticks_at, manager_ticked_by, manager_crashes_at, live_actor, takes, ticked_by, ticks_at, process_ticked, manager_ticked, all_ticked_by, all_tick, crashes_at, joining, may_join, starts_at, unmanaged as only_unmanaged, agreed_on, agrees, may_run, guarded_by, installs_at, leases_at, world_step}
use Rattle.hk_effects.specs.Own.{IsDropped, IsAdded, IsChain}
use Rattle.hk_effects.proofs.Processes.{numbered_node, in_members}
use Rattle.hk_effects.proofs.Rests.{numbered_in}
use Rattle.hk_effects.proofs.Frames.{accepted}
use Rattle.hk_effects.proofs.Chain.{in_dropped, in_added, MayFollow}

-- a process that runs
abbrev pub alive : NodeState → Process
alive x = record { node = x; crashed = false }

-- and a manager's
abbrev pub managing : ManagerState → ManagerProcess
managing x = record { manager = x; crashed = false }

-- a node's step that is no call, with the clocks behind it
abbrev pub makes : WorldState → NodeId → NodeState → Stepped → Paces → Result Accepted Refused
makes w id x s paces = Ok (accepted w id x s w.calls paces None)

-- processes and clocks alone change
abbrev pub with_processes : WorldState → Processes → Paces → WorldState
with_processes w processes paces = record w { processes = processes; paces = paces }

-- beside managers
abbrev pub with_managers : WorldState → List ManagerProcess → WorldState
with_managers w managers = record w { managers = managers }

-- a view that a node may install
pub record MayInstall (w : WorldState) (epoch : ℕ) (id : NodeId) (x : NodeState) (v : View) : Type 0 where
  pub found : numbered epoch w.views ≡ Some v
  pub agreed : In w.views v
  pub inside : is_member id v.members ≡ true
  pub later : epoch_of x < v.epoch
  pub ended : find (may_run w.views v) w.processes ≡ None

-- so it may follow the last one
pub may_follow : (views : List View) → IsChain views → (v : View) → IsDropped (last_view views) v ⊎ IsAdded (last_view views) v → MayFollow views v
may_follow views chain v (inl d) = rw d.2 (record {
  epoch = refl;
  change = inl (d.0, d.1, refl);
  from = λ k t. inl (in_dropped (λ m. not (eqb m.0 d.0.0)) (last_view views).members k t);
  next = le_refl (last_view views).next;
  below = λ k t. chain.below (last_view views) chain.last k (in_dropped (λ m. not (eqb m.0 d.0.0)) (last_view views).members k t);
})
may_follow views chain v (inr is) = rw is (record {
  epoch = refl;
  change = inr refl;
  from = λ k t. in_added (last_view views).members (numbered_node (last_view views).next) k t;
  next = omega arith;
  below = λ k t. ⊎_elim (λ (o : In (member_numbers (last_view views).members) k). let b = chain.below (last_view views) chain.last k o in omega arith) (λ (is : k ≡ (last_view views).next). omega arith) (in_added (last_view views).members (numbered_node (last_view views).next) k t);
})

none_mapped : (f : ManagerProcess → ManagerProcess) (ms : List ManagerProcess) → ms ≡ [] → map f ms ≡ ms
none_mapped f ms none = rw none refl

module _ (P : Type 0) (w : WorldState) (a : Accepted) where
  pub live_step : (id : NodeId) (step : NodeState → Result Accepted Refused) → ((x : NodeState) → process_at id w.processes ≡ Some (alive x) → step x ≡ Ok a → P) → live w id step ≡ Ok a → P
  live_step id step go_on e = by_process (process_at id w.processes) refl e
    where
      by_crashed : (p : Process) → process_at id w.processes ≡ Some p → (b : Bool) → p.crashed ≡ b → running_at b p.node step ≡ Ok a → P
      by_crashed p at true c e = cc
      by_crashed p at false c e = go_on p.node (at ∙ ap (λ (b : Bool). Some (record { node = p.node; crashed = b })) c) e

      by_process : (o : Option Process) → process_at id w.processes ≡ o → live_at o step ≡ Ok a → P
      by_process None at e = cc
      by_process (Some p) at e = by_crashed p at p.crashed refl e

  -- ---- managers
  pub live_manager_step : (m : ℕ) (step : ManagerState → Result Accepted Refused) → ((x : ManagerState) → manager_at m w.managers ≡ Some (managing x) → step x ≡ Ok a → P) → live_manager w m step ≡ Ok a → P
  live_manager_step m step go_on e = by_process (manager_at m w.managers) refl e
    where
      by_crashed : (p : ManagerProcess) → manager_at m w.managers ≡ Some p → (b : Bool) → p.crashed ≡ b → managing_at b p.manager step ≡ Ok a → P
      by_crashed p at true c e = cc
      by_crashed p at false c e = go_on p.manager (at ∙ ap (λ (b : Bool). Some (record { manager = p.manager; crashed = b })) c) e

      by_process : (o : Option ManagerProcess) → manager_at m w.managers ≡ o → live_manager_at o step ≡ Ok a → P
      by_process None at e = cc
      by_process (Some p) at e = by_crashed p at p.crashed refl e

  -- a step of a manager that is accepted is one that it makes
  pub makes_manager_step : (m : ℕ) (r : Result ManagerStepped ManagerFault) → ((s : ManagerStepped) → r ≡ Ok s → aside (with_manager_step w m s) (manager_shown w m s) ≡ Ok a → P) → manager_acts w m r ≡ Ok a → P
  makes_manager_step m (Ok s) go_on e = go_on s refl e
  makes_manager_step m (Err fault) go_on e = cc

  -- where none is there
  no_manager : w.managers ≡ [] → (m : ℕ) (step : ManagerState → Result Accepted Refused) → live_manager w m step ≡ Ok a → P
  no_manager none m step e = by_none (subst (λ (ms : List ManagerProcess). live_manager_at (manager_at m ms) step ≡ Ok a) none e)
    where
      by_none : live_manager_at None step ≡ Ok a → P
      by_none e = cc

  pub proposes_none : w.managers ≡ [] → (m base : ℕ) (change : Change) → world_step w (Propose m base change) ≡ Ok a → P
  proposes_none none m base change e = no_manager none m _ e

  pub activates_none : w.managers ≡ [] → (m : ℕ) → world_step w (Activate m) ≡ Ok a → P
  activates_none none m e = no_manager none m _ e

  pub unmanaged_step : (answer : Result Accepted Refused) → (answer ≡ Ok a → P) → only_unmanaged w.managers answer ≡ Ok a → P
  unmanaged_step answer go_on e = by_managers w.managers e
    where
      by_managers : (ms : List ManagerProcess) → only_unmanaged ms answer ≡ Ok a → P
      by_managers [] e = go_on e
      by_managers (m ∷ ms) e = cc

  -- ---- actors, letters and clocks, with managers or without
  pub any_actor_step : (actor : Actor) (step : NodeId → NodeState → Result Accepted Refused) (by_manager : ℕ → ManagerState → Result Accepted Refused) →
      ((id : NodeId) (x : NodeState) → process_at id w.processes ≡ Some (alive x) → step id x ≡ Ok a → P) → ((m : ℕ) → live_manager w m (by_manager m) ≡ Ok a → P) → live_actor w actor step by_manager ≡ Ok a → P
  any_actor_step (Actor.Node id) step by_manager go_on managed e = live_step id (step id) (go_on id) e
  any_actor_step (Actor.Manager m) step by_manager go_on managed e = managed m e

  pub live_actor_step : w.managers ≡ [] → (actor : Actor) (step : NodeId → NodeState → Result Accepted Refused) (by_manager : ℕ → ManagerState → Result Accepted Refused) →
      ((id : NodeId) (x : NodeState) → process_at id w.processes ≡ Some (alive x) → step id x ≡ Ok a → P) → live_actor w actor step by_manager ≡ Ok a → P
  live_actor_step none actor step by_manager go_on e = any_actor_step actor step by_manager go_on (λ m e. no_manager none m (by_manager m) e) e

  pub any_takes_step : (n : ℕ) →
      ((l : Letter) → numbered n w.letters ≡ Some l → (id : NodeId) (x : NodeState) → process_at id w.processes ≡ Some (alive x) → acts w id x (receives x l) ≡ Ok a → P) →
      ((l : Letter) → numbered n w.letters ≡ Some l → (m : ℕ) → live_manager w m (λ manager. manager_acts w m (manager_step manager (ManagerEvent.Receive l))) ≡ Ok a → P) → takes w (numbered n w.letters) ≡ Ok a → P
  any_takes_step n go_on managed e = by_letter (numbered n w.letters) refl e
    where
      by_letter : (o : Option Letter) → numbered n w.letters ≡ o → takes w o ≡ Ok a → P
      by_letter None found e = cc
      by_letter (Some l) found e = any_actor_step l.to (λ id node. acts w id node (receives node l)) (λ m manager. manager_acts w m (manager_step manager (ManagerEvent.Receive l))) (go_on l found) (managed l found) e

  pub takes_step : w.managers ≡ [] → (n : ℕ) →
      ((l : Letter) → numbered n w.letters ≡ Some l → (id : NodeId) (x : NodeState) → process_at id w.processes ≡ Some (alive x) → acts w id x (receives x l) ≡ Ok a → P) → takes w (numbered n w.letters) ≡ Ok a → P
  takes_step none n go_on e = any_takes_step n go_on (λ l found m e. no_manager none m _ e) e

  -- the clocks let it rise
  pub ticks_step : (to : ℕ) (id : NodeId) (x : NodeState) → ((paces : Paces) → makes w id x (ticks x to) paces ≡ Ok a → P) → ticks_at w to id x ≡ Ok a → P
  ticks_step to id x go_on e = by_clocks (clock_step (clocks_of w) (ClockEvent.Tick (Actor.Node id) to)) e
    where
      by_clocks : (r : Result ClockState ClockFault) → ticked_by r w id to x ≡ Ok a → P
      by_clocks (Ok clocks) e = go_on clocks.paces e
      by_clocks (Err fault) e = cc

  pub any_tick_step : (to : ℕ) → ((managers : List ManagerProcess) (paces : Paces) → aside (with_managers (with_processes w (map (process_ticked to) w.processes) paces) managers) nothing ≡ Ok a → P) → all_tick w to ≡ Ok a → P
  any_tick_step to go_on e = by_clocks (clock_step (clocks_of w) (ClockEvent.TickAll to)) e
    where
      by_clocks : (r : Result ClockState ClockFault) → all_ticked_by r w to ≡ Ok a → P
      by_clocks (Ok clocks) e = go_on (map (manager_ticked to) w.managers) clocks.paces e
      by_clocks (Err fault) e = cc

  pub all_tick_step : w.managers ≡ [] → (to : ℕ) → ((paces : Paces) → aside (with_processes w (map (process_ticked to) w.processes) paces) nothing ≡ Ok a → P) → all_tick w to ≡ Ok a → P
  all_tick_step none to go_on e = by_clocks (clock_step (clocks_of w) (ClockEvent.TickAll to)) e
    where
      by_clocks : (r : Result ClockState ClockFault) → all_ticked_by r w to ≡ Ok a → P
      by_clocks (Ok clocks) e = go_on clocks.paces
          (ap (λ (ms : List ManagerProcess). aside (with_managers (with_processes w (map (process_ticked to) w.processes) clocks.paces) ms) nothing) (sym (none_mapped (manager_ticked to) w.managers none)) ∙ e)
      by_clocks (Err fault) e = cc

  -- a manager's clock rises
  pub manager_ticks_step : (to m : ℕ) (x : ManagerState) → ((managers : List ManagerProcess) (paces : Paces) → aside (with_managers (with_processes w w.processes paces) managers) nothing ≡ Ok a → P) → manager_ticks_at w to m x ≡ Ok a → P
  manager_ticks_step to m x go_on e = by_clocks (clock_step (clocks_of w) (ClockEvent.Tick (Actor.Manager m) to)) e
    where
      by_clocks : (r : Result ClockState ClockFault) → manager_ticked_by r w m to x ≡ Ok a → P
      by_clocks (Ok clocks) e = go_on (put_manager m (managing (manager_ticks x to).manager) w.managers) clocks.paces e
      by_clocks (Err fault) e = cc

  pub manager_crashes_step : (m : ℕ) (x : ManagerState) → ((managers : List ManagerProcess) (paces : Paces) → aside (with_managers (with_processes w w.processes paces) managers) nothing ≡ Ok a → P) → manager_crashes_at w m x ≡ Ok a → P
  manager_crashes_step m x go_on e = go_on (put_manager m (record { manager = x; crashed = true }) w.managers) (paces_by w (ClockEvent.Stop (Actor.Manager m))) e

  pub crashes_step : (id : NodeId) (x : NodeState) → ((paces : Paces) → aside (with_processes w (put_process id (record { node = x; crashed = true }) w.processes) paces) nothing ≡ Ok a → P) → crashes_at w id x ≡ Ok a → P
  crashes_step id x go_on e = go_on (paces_by w (ClockEvent.Stop (Actor.Node id))) e

  -- a joiner was not there
  pub any_starts_step : (id : NodeId) →
      (process_at id w.processes ≡ None → may_join w id ≡ true → (paces : Paces) → aside (with_processes w (put_process id (joining w id) w.processes) paces) nothing ≡ Ok a → P) →
      starts_at (process_at id w.processes) w id ≡ Ok a → P
  any_starts_step id go_on e = by_process (process_at id w.processes) refl e
    where
      paces : Paces
      paces = paces_by w (ClockEvent.Start (Actor.Node id) (greatest_clock 1 w.paces))

      by_member : process_at id w.processes ≡ None → (b : Bool) → may_join w id ≡ b → cond b (aside (with_processes w (put_process id (joining w id) w.processes) paces) nothing) (Err NotMember) ≡ Ok a → P
      by_member at true m e = go_on at m paces e
      by_member at false m e = cc

      by_process : (o : Option Process) → process_at id w.processes ≡ o → starts_at o w id ≡ Ok a → P
      by_process (Some p) at e = cc
      by_process None at e = by_member at (may_join w id) refl e

  -- and is a member of the last view, where no manager holds another one
  pub starts_step : w.managers ≡ [] → (id : NodeId) →
      (process_at id w.processes ≡ None → In (member_numbers (last_view w.views).members) id.0 → (paces : Paces) → aside (with_processes w (put_process id (joining w id) w.processes) paces) nothing ≡ Ok a → P) →
      starts_at (process_at id w.processes) w id ≡ Ok a → P
  starts_step none id go_on e = any_starts_step id (λ at may paces e. go_on at (in_members id (last_view w.views).members (sym (last_alone (is_member id (last_view w.views).members) w.managers none) ∙ may)) paces e) e
    where
      last_alone : (b : Bool) (ms : List ManagerProcess) → ms ≡ [] → (b || list_any (λ p. is_member id p.manager.held.members) ms) ≡ b
      last_alone true ms is = refl
      last_alone false ms is = rw is refl

  -- the view that is agreed drops a member of the last one, or adds a node to it
  pub changes_step : (change : Change) → ((v : View) → IsDropped (last_view w.views) v ⊎ IsAdded (last_view w.views) v → agreed_on w v ≡ Ok a → P) → agrees w (last_view w.views) change ≡ Ok a → P
  changes_step (Drop id) go_on e = by_member (is_member id (last_view w.views).members) refl (eqb (length (last_view w.views).members) 1)
      (record { epoch = (last_view w.views).epoch + 1; members = filter (λ m. not (eqb m.0 id.0)) (last_view w.views).members; next = (last_view w.views).next }) refl e
    where
      by_member : (b : Bool) → is_member id (last_view w.views).members ≡ b → (c : Bool) (v : View) →
          v ≡ record { epoch = (last_view w.views).epoch + 1; members = filter (λ m. not (eqb m.0 id.0)) (last_view w.views).members; next = (last_view w.views).next } →
          cond b (cond c (Err LastMember) (agreed_on w v)) (Err NoSuchMember) ≡ Ok a → P
      by_member true m true v is e = cc
      by_member true m false v is e = go_on v (inl (id, in_members id (last_view w.views).members m, is)) e
      by_member false m c v is e = cc
  changes_step Add go_on e = by_full (leb 16 (length (last_view w.views).members)) (leb 65536 (last_view w.views).next)
      (record { epoch = (last_view w.views).epoch + 1; members = (last_view w.views).members ++ record { 0 = (last_view w.views).next } ∷ []; next = (last_view w.views).next + 1 }) refl e
    where
      by_full : (b c : Bool) (v : View) → IsAdded (last_view w.views) v → cond b (Err Full) (cond c (Err NoNumbers) (agreed_on w v)) ≡ Ok a → P
      by_full true c v is e = cc
      by_full false true v is e = cc
      by_full false false v is e = go_on v (inr is) e

  pub agrees_step : IsChain w.views → (change : Change) → ((v : View) → MayFollow w.views v → agreed_on w v ≡ Ok a → P) → agrees w (last_view w.views) change ≡ Ok a → P
  agrees_step chain change go_on e = changes_step change (λ v how e. go_on v (may_follow w.views chain v how) e) e

  -- an agreed view is installed where no lease may run of a node that it leaves out
  pub installs_step : (epoch : ℕ) (id : NodeId) (x : NodeState) → ((v : View) → MayInstall w epoch id x v → acts w id x (installs x v) ≡ Ok a → P) → installs_at (numbered epoch w.views) w id x ≡ Ok a → P
  installs_step epoch id x go_on e = by_view (numbered epoch w.views) refl e
    where
      by_running : (v : View) → numbered epoch w.views ≡ Some v → is_member id v.members ≡ true → epoch_of x < v.epoch → (o : Option (NodeId × Process)) → find (may_run w.views v) w.processes ≡ o → guarded_by o w id x v ≡ Ok a → P
      by_running v found inside later (Some p) r e = cc
      by_running v found inside later None r e = go_on v (record { found = found; agreed = numbered_in epoch w.views v found; inside = inside; later = later; ended = r }) e

      by_later : (v : View) → numbered epoch w.views ≡ Some v → is_member id v.members ≡ true → (b : Bool) → ltb (epoch_of x) v.epoch ≡ b → cond b (guarded_by (find (may_run w.views v) w.processes) w id x v) (Err (Behind (epoch_of x))) ≡ Ok a → P
      by_later v found inside true l e = by_running v found inside (ltb-true (epoch_of x) v.epoch l) (find (may_run w.views v) w.processes) refl e
      by_later v found inside false l e = cc

      by_member : (v : View) → numbered epoch w.views ≡ Some v → (b : Bool) → is_member id v.members ≡ b → cond b (cond (ltb (epoch_of x) v.epoch) (guarded_by (find (may_run w.views v) w.processes) w id x v) (Err (Behind (epoch_of x)))) (Err NotMember) ≡ Ok a → P
      by_member v found true inside e = by_later v found inside (ltb (epoch_of x) v.epoch) refl e
      by_member v found false inside e = cc

      by_view : (o : Option View) → numbered epoch w.views ≡ o → installs_at o w id x ≡ Ok a → P
      by_view None found e = cc
      by_view (Some v) found e = by_member v found (is_member id v.members) refl e

  -- a lease is granted to a member of the last view
  pub leases_step : (id : NodeId) (end : ℕ) (x : NodeState) → (In (member_numbers (last_view w.views).members) id.0 → acts w id x (grants x end) ≡ Ok a → P) → leases_at w id end x ≡ Ok a → P
  leases_step id end x go_on e = by_member (is_member id (last_view w.views).members) refl e
    where
      by_member : (b : Bool) → is_member id (last_view w.views).members ≡ b → cond b (acts w id x (grants x end)) (Err NotMember) ≡ Ok a → P
      by_member true m e = go_on (in_members id (last_view w.views).members m) e
      by_member false m e = cc
