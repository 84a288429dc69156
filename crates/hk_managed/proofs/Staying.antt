-- No accepted event takes away a letter, or changes how many managers there are: what may have begun stays so.
use Rattle.std.proofs.Common.{◌≡◌, ◌≤◌, ◌+◌, ℕ, List, [], ◌∷◌, ◌++◌, map, length, Bool, true, false, cond, Option, Some, None, Result, Ok, Err, refl, sym, subst, ◌∙◌, inl, inr, ⊎_elim, append-nil, nat_lt}
use Rattle.std.proofs.lemmas.List.{length-set, length-map}
use Rattle.hk_base.specs.declared.stamp.NodeId.{NodeId}
use Rattle.hk_base.specs.declared.call.CallNo.{CallNo}
use Rattle.hk_base.specs.declared.call.Op.{Op}
use Rattle.hk_base.specs.declared.view.View.{View}
use Rattle.hk_base.specs.declared.letter.Letter.{Letter}
use Rattle.hk_clocks.specs.declared.fault.ClockFault.{ClockFault}
use Rattle.hk_clocks.specs.Clocks.{ClockState}
use Rattle.hk_clocks.specs.Steps.{clock_step, greatest_clock}
use Rattle.hk_clocks.specs.Steps.{ClockEvent}
use Rattle.hk_base.specs.declared.letter.Actor.TheVariants.{Node, Manager}
use Rattle.hk_manager.specs.declared.event.ManagerEvent.TheVariants as ManagerEvent
use Rattle.hk_manager.specs.declared.fault.ManagerFault.{ManagerFault}
use Rattle.hk_manager.specs.Manager.{ManagerState}
use Rattle.hk_manager.specs.Steps.{ManagerStepped, manager_step as step_of, manager_ticks}
use Rattle.hk_node.specs.Node.{NodeState}
use Rattle.hk_node.specs.Stepped.{Stepped}
use Rattle.hk_node.specs.Calls.{called}
use Rattle.hk_node.specs.Copies.{asks_copy}
use Rattle.hk_node.specs.Steps.{receives, resent, replayed, asks_lease, ticks}
use Rattle.hk_event.specs.declared.event.Event.{Event}
use Rattle.hk_event.specs.declared.event.Event.TheVariants.{Call, Take, Tick, TickAll, Crash, Resend, Replay, Copy, Start, Agree, Install, Lease, AskLease, Propose, Activate}
use Rattle.hk_world.specs.declared.process.Process.{Process}
use Rattle.hk_world.specs.declared.process.ManagerProcess.{ManagerProcess}
use Rattle.hk_event.specs.declared.refused.Refused.{Refused}
use Rattle.hk_event.specs.declared.refused.Refused.TheVariants.{NotMember}
use Rattle.hk_world.specs.declared.shown.Shown.{Shown}
use Rattle.hk_world.specs.World.{WorldState, process_at, put_process, put_manager, clocks_of, paces_by, numbered, last_view}
use Rattle.hk_world.specs.Steps.{Accepted, nothing, aside, with_step, shown_of, acts, learned, with_manager_step, manager_shown, manager_acts, calls_at, takes, ticked_by, ticks_at, manager_ticked_by, manager_ticks_at, process_ticked, manager_ticked, all_ticked_by, crashes_at, manager_crashes_at, joining, may_join, starts_at, agrees, installs_at, leases_at, live, world_step}
use Rattle.hk_managed.specs.Begun.{IsActivated, MayHaveBegun}
use Rattle.hk_managed.proofs.Places.{numbered_kept}
use Rattle.hk_managed.proofs.Accepting.{the_accepted, node_step, manager_step, actor_step, not_told}
use Rattle.hk_managed.proofs.Beginning.{activated_on}

-- the same managers, and letters and views behind those that were there
pub record Grows (w next : WorldState) : Type 0 where
  pub many : length next.managers ≡ length w.managers
  pub new : List Letter
  pub letters : next.letters ≡ w.letters ++ new
  pub views : (e : ℕ) (v : View) → numbered e w.views ≡ Some v → numbered e next.views ≡ Some v

learned_stays : (views : List View) (held : View) (e : ℕ) (v : View) → numbered e views ≡ Some v → numbered e (learned views held) ≡ Some v
learned_stays views held e v h = at (nat_lt (last_view views).epoch held.epoch)
  where
    at : (b : Bool) → numbered e (cond b (views ++ held ∷ []) views) ≡ Some v
    at true = numbered_kept views (held ∷ []) e v h
    at false = h

pub stays : (w next : WorldState) → Grows w next → (epoch : ℕ) → MayHaveBegun w epoch → MayHaveBegun next epoch
stays w next g epoch begun = ⊎_elim (λ (first : epoch ≤ 1). inl first)
    (λ (a : IsActivated (length w.managers) w.letters epoch).
    inr (subst (λ (k : ℕ). IsActivated k next.letters epoch) (sym g.many) (subst (λ (letters : List Letter). IsActivated (length w.managers) letters epoch) (sym g.letters) (activated_on (length w.managers) w.letters g.new epoch a)))) begun

module _ (w : WorldState) (some : 1 ≤ length w.managers) (a : Accepted) where
  abbrev Goal : Type 0
  Goal = Grows w a.world

  goal_of : (b : Accepted) (r : Result Accepted Refused) → r ≡ Ok b → r ≡ Ok a → Grows w b.world → Goal
  goal_of b r p q g = subst (λ (z : Accepted). Grows w z.world) (the_accepted r b a p q) g

  -- no letter is sent
  quiet : (next : WorldState) (shown : Shown) → length next.managers ≡ length w.managers → next.letters ≡ w.letters → next.views ≡ w.views → aside next shown ≡ Ok a → Goal
  quiet next shown many same views e = goal_of (record { world = next; told = []; shown = shown }) (aside next shown) refl e (record { many = many; new = []; letters = same ∙ sym (append-nil w.letters); views = λ k v h. subst (λ (vs : List View). numbered k vs ≡ Some v) (sym views) h })

  by_node : (id : NodeId) (x : NodeState) (s : Stepped) → acts w id x s ≡ Ok a → Goal
  by_node id x s e = goal_of (record { world = with_step w id s; told = s.told; shown = shown_of w id x s None }) (acts w id x s) refl e (record { many = refl; new = s.letters; letters = refl; views = λ k v h. h })

  by_manager : (m : ℕ) (r : Result ManagerStepped ManagerFault) → manager_acts w m r ≡ Ok a → Goal
  by_manager m (Ok s) e = goal_of (record { world = with_manager_step w m s; told = []; shown = manager_shown w m s }) (manager_acts w m (Ok s)) refl e
      (record { many = length-set w.managers m (record { manager = s.manager; crashed = false }); new = s.letters; letters = refl; views = learned_stays w.views s.manager.held })
  by_manager m (Err fault) e = absurd cc

  by_call : (id : NodeId) (x : NodeState) (key : List ℕ) (op : Op) → calls_at w id key op x ≡ Ok a → Goal
  by_call id x key op e =
      let call : CallNo = record { 0 = w.calls + 1 } in
      let s : Stepped = called x call key op in
      goal_of (record { world = record (with_step w id s) { calls = w.calls + 1 }; told = s.told; shown = shown_of w id x s (Some call) }) (calls_at w id key op x) refl e
      (record { many = refl; new = s.letters; letters = refl; views = λ k v h. h })

  by_tick : (to : ℕ) (id : NodeId) (x : NodeState) (r : Result ClockState ClockFault) → ticked_by r w id to x ≡ Ok a → Goal
  by_tick to id x (Ok clocks) e =
      let s : Stepped = ticks x to in
      goal_of (record { world = record (with_step w id s) { paces = clocks.paces }; told = s.told; shown = shown_of w id x s None }) (ticked_by (Ok clocks) w id to x) refl e (record { many = refl; new = s.letters; letters = refl; views = λ k v h. h })
  by_tick to id x (Err fault) e = absurd cc

  by_manager_tick : (to m : ℕ) (g : ManagerState) (r : Result ClockState ClockFault) → manager_ticked_by r w m to g ≡ Ok a → Goal
  by_manager_tick to m g (Ok clocks) e =
      let p : ManagerProcess = record { manager = (manager_ticks g to).manager; crashed = false } in
      quiet (record w { managers = put_manager m p w.managers; paces = clocks.paces }) nothing (length-set w.managers m p) refl refl e
  by_manager_tick to m g (Err fault) e = absurd cc

  by_all : (to : ℕ) (r : Result ClockState ClockFault) → all_ticked_by r w to ≡ Ok a → Goal
  by_all to (Ok clocks) e = quiet (record w { processes = map (process_ticked to) w.processes; managers = map (manager_ticked to) w.managers; paces = clocks.paces }) nothing (length-map w.managers (manager_ticked to)) refl refl e
  by_all to (Err fault) e = absurd cc

  by_letter : (o : Option Letter) → takes w o ≡ Ok a → Goal
  by_letter None e = absurd cc
  by_letter (Some l) e = actor_step Goal w a l.to (λ id node. acts w id node (receives node l)) (λ m g. manager_acts w m (step_of g (ManagerEvent.Receive l)))
      (λ id x to at e. by_node id x (receives x l) e) (λ m g to at e. by_manager m (step_of g (ManagerEvent.Receive l)) e) e

  by_start : (id : NodeId) (o : Option Process) → starts_at o w id ≡ Ok a → Goal
  by_start id (Some p) e = absurd cc
  by_start id None e = by_member (may_join w id) e
    where
      by_member : (b : Bool) → cond b (aside (record w { processes = put_process id (joining w id) w.processes; paces = paces_by w (ClockEvent.Start (Node id) (greatest_clock 1 w.paces)) }) nothing) (Err NotMember) ≡ Ok a → Goal
      by_member true e = quiet (record w { processes = put_process id (joining w id) w.processes; paces = paces_by w (ClockEvent.Start (Node id) (greatest_clock 1 w.paces)) }) nothing refl refl refl e
      by_member false e = absurd cc

  pub grows : (event : Event) → world_step w event ≡ Ok a → Goal
  grows (Call id key op) e = node_step Goal w a id (calls_at w id key op) (λ x at e. by_call id x key op e) e
  grows (Take n) e = by_letter (numbered n w.letters) e
  grows (Tick actor to) e = actor_step Goal w a actor (ticks_at w to) (manager_ticks_at w to)
      (λ id x q at e. by_tick to id x (clock_step (clocks_of w) (ClockEvent.Tick (Node id) to)) e) (λ m g q at e. by_manager_tick to m g (clock_step (clocks_of w) (ClockEvent.Tick (Manager m) to)) e) e
  grows (TickAll to) e = by_all to (clock_step (clocks_of w) (ClockEvent.TickAll to)) e
  grows (Crash actor) e = actor_step Goal w a actor (crashes_at w) (manager_crashes_at w)
      (λ id x q at e. quiet (record w { processes = put_process id (record { node = x; crashed = true }) w.processes; paces = paces_by w (ClockEvent.Stop (Node id)) }) nothing refl refl refl e)
      (λ m g q at e. quiet (record w { managers = put_manager m (record { manager = g; crashed = true }) w.managers; paces = paces_by w (ClockEvent.Stop (Manager m)) }) nothing (length-set w.managers m (record { manager = g; crashed = true })) refl refl e) e
  grows (Resend id key) e = node_step Goal w a id (λ node. acts w id node (resent node key)) (λ x at e. by_node id x (resent x key) e) e
  grows (Replay id key) e = node_step Goal w a id (λ node. acts w id node (replayed node key)) (λ x at e. by_node id x (replayed x key) e) e
  grows (Copy id from room) e = node_step Goal w a id (λ node. acts w id node (asks_copy node from room)) (λ x at e. by_node id x (asks_copy x from room) e) e
  grows (Start id) e = by_start id (process_at id w.processes) e
  grows (Agree change) e = not_told Goal w a w.managers (agrees w (last_view w.views) change) some e
  grows (Install id epoch) e = not_told Goal w a w.managers (live w id (λ node. installs_at (numbered epoch w.views) w id node)) some e
  grows (Lease id end) e = not_told Goal w a w.managers (live w id (leases_at w id end)) some e
  grows (AskLease id m) e = node_step Goal w a id (λ node. acts w id node (asks_lease node m)) (λ x at e. by_node id x (asks_lease x m) e) e
  grows (Propose m base change) e = manager_step Goal w a m (λ g. manager_acts w m (step_of g (ManagerEvent.Propose base change))) (λ g at e. by_manager m (step_of g (ManagerEvent.Propose base change)) e) e
  grows (Activate m) e = manager_step Goal w a m (λ g. manager_acts w m (step_of g ManagerEvent.Activate)) (λ g at e. by_manager m (step_of g ManagerEvent.Activate) e) e
