-- Each accepted event of a world with managers keeps that a run of the council leads to its managers, letters and learned views.
use Rattle.std.proofs.Common.{◌≡◌, ◌≤◌, ◌+◌, ◌&&◌, ℕ, zero, suc, List, [], ◌∷◌, map, length, Bool, true, false, cond, Option, Some, None, Result, Ok, Err, nat_lt, nat_eq, refl, sym, subst, append-nil, inl, inr}
use Rattle.hk_base.specs.declared.stamp.NodeId.{NodeId}
use Rattle.hk_base.specs.declared.call.CallNo.{CallNo}
use Rattle.hk_base.specs.declared.call.Op.{Op}
use Rattle.hk_base.specs.declared.letter.Actor.{Actor}
use Rattle.hk_base.specs.declared.letter.Actor.TheVariants.{Node, Manager}
use Rattle.hk_base.specs.declared.letter.Letter.{Letter}
use Rattle.hk_base.specs.declared.letter.Body.{Body}
use Rattle.hk_base.specs.declared.letter.Body.TheVariants as Body
use Rattle.hk_key.specs.Table.{resend}
use Rattle.hk_clocks.specs.declared.fault.ClockFault.{ClockFault}
use Rattle.hk_clocks.specs.Clocks.{ClockState}
use Rattle.hk_clocks.specs.Steps.{clock_step, greatest_clock}
use Rattle.hk_clocks.specs.Steps.{ClockEvent}
use Rattle.hk_paxos.specs.Run.{In}
use Rattle.hk_manager.specs.declared.event.ManagerEvent.{ManagerEvent}
use Rattle.hk_manager.specs.declared.event.ManagerEvent.TheVariants as ManagerEvent
use Rattle.hk_manager.specs.declared.fault.ManagerFault.{ManagerFault}
use Rattle.hk_manager.specs.Manager.{ManagerState}
use Rattle.hk_manager.specs.Steps.{ManagerStepped, manager_step as step_of, manager_ticks}
use Rattle.hk_council.specs.Council.{Council, WasSent}
use Rattle.hk_node.specs.Rows.{find_row}
use Rattle.hk_node.specs.Node.{NodeState, epoch_of, is_other}
use Rattle.hk_node.specs.Stepped.{Stepped, idle}
use Rattle.hk_node.specs.Calls.{called}
use Rattle.hk_node.specs.Copies.{asks_copy}
use Rattle.hk_node.specs.Steps.{heard, received, is_addressed, receives_from, receives, resent, replayed, asks_lease, ticks}
use Rattle.hk_event.specs.declared.event.Event.{Event}
use Rattle.hk_event.specs.declared.event.Event.TheVariants.{Call, Take, Tick, TickAll, Crash, Resend, Replay, Copy, Start, Agree, Install, Lease, AskLease, Propose, Activate}
use Rattle.hk_world.specs.declared.process.Process.{Process}
use Rattle.hk_event.specs.declared.refused.Refused.{Refused}
use Rattle.hk_event.specs.declared.refused.Refused.TheVariants.{NotMember}
use Rattle.hk_world.specs.World.{WorldState, process_at, put_process, manager_at, put_manager, clocks_of, paces_by, numbered, last_view}
use Rattle.hk_world.specs.Steps.{Accepted, nothing, aside, with_step, shown_of, acts, with_manager_step, manager_shown, manager_acts, calls_at, takes, ticked_by, ticks_at, manager_ticked_by, manager_ticks_at, process_ticked, manager_ticked, all_ticked_by, crashes_at, manager_crashes_at, joining, may_join, starts_at, agrees, installs_at, leases_at, live, world_step}
use Rattle.hk_managed.specs.Council.{IsCouncilOf}
use Rattle.hk_managed.proofs.NodeSteps.{FromNodes, found_quiet, called_quiet, replayed_quiet, asks_quiet, received_quiet, activated_heard}
use Rattle.hk_managed.proofs.Facts.{managing}
use Rattle.hk_managed.proofs.Accepting.{the_accepted, node_step, manager_step, actor_step, not_told}
use Rattle.hk_managed.proofs.Agreeing.{IsCouncil}
use Rattle.hk_managed.proofs.Convening.{HasCouncil, aside_has, posts_has, step_has, stop_has}
use Rattle.hk_managed.proofs.Ticking.{no_news, all_has}

-- ---- a node's letters are in its own name
heard_nodes : (body : Body) (x : NodeState) (m : ℕ) → FromNodes (heard body x m).letters
heard_nodes (Body.LeaseGive end) x m = tt
heard_nodes (Body.Activate view) x m = (activated_heard x m view).nodes
heard_nodes (Body.Inv k s kind content) x m = tt
heard_nodes (Body.Ack k s top) x m = tt
heard_nodes (Body.Val k s) x m = tt
heard_nodes (Body.CopyAsk after room) x m = tt
heard_nodes (Body.CopyGive after done items) x m = tt
heard_nodes (Body.LeaseAsk asked) x m = tt
heard_nodes (Body.Prepare ballot) x m = tt
heard_nodes (Body.Promise ballot vote) x m = tt
heard_nodes (Body.Accept ballot view) x m = tt
heard_nodes (Body.Accepted ballot) x m = tt
heard_nodes (Body.Chosen view) x m = tt

given_nodes : (x : NodeState) (s : Stepped) (b : Bool) → FromNodes s.letters → FromNodes (cond b s (idle x)).letters
given_nodes x s true h = h
given_nodes x s false h = tt

receives_nodes : (x : NodeState) (l : Letter) → FromNodes (receives x l).letters
receives_nodes x l = by_sender l.from
  where
    by_sender : (a : Actor) → FromNodes (receives_from a x l).letters
    by_sender (Manager m) = given_nodes x (heard l.body x m) (is_addressed x l.to && nat_lt m x.managers) (heard_nodes l.body x m)
    by_sender (Node n) = given_nodes x (received l.body x n) (is_addressed x l.to && (nat_eq l.epoch (epoch_of x) && is_other x n)) (received_quiet l.body x n).nodes

asks_nodes : (x : NodeState) (m : ℕ) → FromNodes (asks_lease x m).letters
asks_nodes x m = given_nodes x (record { node = x; letters = record { epoch = epoch_of x; from = Node x.id; to = Manager m; body = Body.LeaseAsk x.clock } ∷ []; told = []; installed = None }) (nat_lt m x.managers) (tt, tt)

-- a letter of this number was sent
pub sent_at : (n : ℕ) (letters : List Letter) (l : Letter) → numbered n letters ≡ Some l → In letters l
sent_at zero letters l e = absurd cc
sent_at (suc k) [] l e = absurd cc
sent_at (suc zero) (x ∷ letters) l e = inl cc
sent_at (suc (suc k)) (x ∷ letters) l e = inr (sent_at (suc k) letters l e)

module _ (w : WorldState) (h : HasCouncil w) (council : IsCouncil w) (some : 1 ≤ length w.managers) (a : Accepted) where
  abbrev Goal : Type 0
  Goal = HasCouncil a.world

  goal_of : (b : Accepted) (r : Result Accepted Refused) → r ≡ Ok b → r ≡ Ok a → HasCouncil b.world → Goal
  goal_of b r p q g = subst (λ (z : Accepted). HasCouncil z.world) (the_accepted r b a p q) g

  by_node : (id : NodeId) (x : NodeState) (s : Stepped) → FromNodes s.letters → acts w id x s ≡ Ok a → Goal
  by_node id x s nodes e = goal_of (record { world = with_step w id s; told = s.told; shown = shown_of w id x s None }) (acts w id x s) refl e (posts_has w h (with_step w id s) s.letters refl refl refl nodes)

  by_call : (id : NodeId) (x : NodeState) (key : List ℕ) (op : Op) → calls_at w id key op x ≡ Ok a → Goal
  by_call id x key op e =
      let call : CallNo = record { 0 = w.calls + 1 } in
      let s : Stepped = called x call key op in
      let then_world : WorldState = record (with_step w id s) { calls = w.calls + 1 } in
      goal_of (record { world = then_world; told = s.told; shown = shown_of w id x s (Some call) }) (calls_at w id key op x) refl e
      (posts_has w h then_world s.letters refl refl refl (called_quiet x call key op).nodes)

  by_tick : (to : ℕ) (id : NodeId) (x : NodeState) (r : Result ClockState ClockFault) → ticked_by r w id to x ≡ Ok a → Goal
  by_tick to id x (Ok clocks) e =
      let s : Stepped = ticks x to in
      let then_world : WorldState = record (with_step w id s) { paces = clocks.paces } in
      goal_of (record { world = then_world; told = s.told; shown = shown_of w id x s None }) (ticked_by (Ok clocks) w id to x) refl e (posts_has w h then_world [] refl refl refl tt)
  by_tick to id x (Err fault) e = absurd cc

  -- ---- a manager's step
  by_step : (m : ℕ) (g : ManagerState) → manager_at m w.managers ≡ Some (managing g) → (event : ManagerEvent) → ((d : Council) → IsCouncilOf w d → WasSent d event) →
      (r : Result ManagerStepped ManagerFault) → step_of g event ≡ r → manager_acts w m r ≡ Ok a → Goal
  by_step m g at event was (Ok s) is e = goal_of (record { world = with_manager_step w m s; told = []; shown = manager_shown w m s }) (manager_acts w m (Ok s)) refl e
      (step_has w h m g at event s (with_manager_step w m s) was is refl refl refl)
  by_step m g at event was (Err fault) is e = absurd cc

  by_manager_tick : (to m : ℕ) (g : ManagerState) → manager_at m w.managers ≡ Some (managing g) → (r : Result ClockState ClockFault) → manager_ticked_by r w m to g ≡ Ok a → Goal
  by_manager_tick to m g at (Ok clocks) e =
      let then_world : WorldState = record w { managers = put_manager m (managing (manager_ticks g to).manager) w.managers; paces = clocks.paces } in
      goal_of (record { world = then_world; told = []; shown = nothing }) (manager_ticked_by (Ok clocks) w m to g) refl e
      (step_has w h m g at (ManagerEvent.Tick to) (manager_ticks g to) then_world (λ d is. tt) refl refl (sym (append-nil w.letters)) (sym (no_news w council m (managing g) at)))
  by_manager_tick to m g at (Err fault) e = absurd cc

  by_all : (to : ℕ) (r : Result ClockState ClockFault) → all_ticked_by r w to ≡ Ok a → Goal
  by_all to (Ok clocks) e =
      let then_world : WorldState = record w { processes = map (process_ticked to) w.processes; managers = map (manager_ticked to) w.managers; paces = clocks.paces } in
      goal_of (record { world = then_world; told = []; shown = nothing }) (all_ticked_by (Ok clocks) w to) refl e (all_has w h council to then_world refl refl refl)
  by_all to (Err fault) e = absurd cc

  by_letter : (n : ℕ) (o : Option Letter) → numbered n w.letters ≡ o → takes w o ≡ Ok a → Goal
  by_letter n None found e = absurd cc
  by_letter n (Some l) found e = actor_step Goal w a l.to (λ id node. acts w id node (receives node l)) (λ m g. manager_acts w m (step_of g (ManagerEvent.Receive l)))
      (λ id x to at e. by_node id x (receives x l) (receives_nodes x l) e)
      (λ m g to at e. by_step m g at (ManagerEvent.Receive l) (λ d is. subst (λ (letters : List Letter). In letters l) (sym is.sent) (sent_at n w.letters l found)) (step_of g (ManagerEvent.Receive l)) refl e) e

  by_start : (id : NodeId) (o : Option Process) → starts_at o w id ≡ Ok a → Goal
  by_start id (Some p) e = absurd cc
  by_start id None e = by_member (may_join w id) e
    where
      by_member : (b : Bool) → cond b (aside (record w { processes = put_process id (joining w id) w.processes; paces = paces_by w (ClockEvent.Start (Node id) (greatest_clock 1 w.paces)) }) nothing) (Err NotMember) ≡ Ok a → Goal
      by_member true e =
          let then_world : WorldState = record w { processes = put_process id (joining w id) w.processes; paces = paces_by w (ClockEvent.Start (Node id) (greatest_clock 1 w.paces)) } in
          goal_of (record { world = then_world; told = []; shown = nothing }) (aside then_world nothing) refl e (aside_has w h then_world refl refl refl)
      by_member false e = absurd cc

  by_crash : (id : NodeId) (x : NodeState) → crashes_at w id x ≡ Ok a → Goal
  by_crash id x e =
      let then_world : WorldState = record w { processes = put_process id (record { node = x; crashed = true }) w.processes; paces = paces_by w (ClockEvent.Stop (Node id)) } in
      goal_of (record { world = then_world; told = []; shown = nothing }) (crashes_at w id x) refl e (aside_has w h then_world refl refl refl)

  by_manager_crash : (m : ℕ) (g : ManagerState) → manager_at m w.managers ≡ Some (managing g) → manager_crashes_at w m g ≡ Ok a → Goal
  by_manager_crash m g at e =
      let then_world : WorldState = record w { managers = put_manager m (record { manager = g; crashed = true }) w.managers; paces = paces_by w (ClockEvent.Stop (Manager m)) } in
      goal_of (record { world = then_world; told = []; shown = nothing }) (manager_crashes_at w m g) refl e (stop_has w h m g at then_world refl refl refl)

  pub council_kept : (event : Event) → world_step w event ≡ Ok a → Goal
  council_kept (Call id key op) e = node_step Goal w a id (calls_at w id key op) (λ x at e. by_call id x key op e) e
  council_kept (Take n) e = by_letter n (numbered n w.letters) refl e
  council_kept (Tick actor to) e = actor_step Goal w a actor (ticks_at w to) (manager_ticks_at w to)
      (λ id x q at e. by_tick to id x (clock_step (clocks_of w) (ClockEvent.Tick (Node id) to)) e) (λ m g q at e. by_manager_tick to m g at (clock_step (clocks_of w) (ClockEvent.Tick (Manager m) to)) e) e
  council_kept (TickAll to) e = by_all to (clock_step (clocks_of w) (ClockEvent.TickAll to)) e
  council_kept (Crash actor) e = actor_step Goal w a actor (crashes_at w) (manager_crashes_at w) (λ id x q at e. by_crash id x e) (λ m g q at e. by_manager_crash m g at e) e
  council_kept (Resend id key) e = node_step Goal w a id (λ node. acts w id node (resent node key)) (λ x at e. by_node id x (resent x key) (found_quiet x key resend (find_row key x.rows)).nodes e) e
  council_kept (Replay id key) e = node_step Goal w a id (λ node. acts w id node (replayed node key)) (λ x at e. by_node id x (replayed x key) (replayed_quiet x key).nodes e) e
  council_kept (Copy id from room) e = node_step Goal w a id (λ node. acts w id node (asks_copy node from room)) (λ x at e. by_node id x (asks_copy x from room) (asks_quiet x from room).nodes e) e
  council_kept (Start id) e = by_start id (process_at id w.processes) e
  council_kept (Agree change) e = not_told Goal w a w.managers (agrees w (last_view w.views) change) some e
  council_kept (Install id epoch) e = not_told Goal w a w.managers (live w id (λ node. installs_at (numbered epoch w.views) w id node)) some e
  council_kept (Lease id end) e = not_told Goal w a w.managers (live w id (leases_at w id end)) some e
  council_kept (AskLease id m) e = node_step Goal w a id (λ node. acts w id node (asks_lease node m)) (λ x at e. by_node id x (asks_lease x m) (asks_nodes x m) e) e
  council_kept (Propose m base change) e = manager_step Goal w a m (λ g. manager_acts w m (step_of g (ManagerEvent.Propose base change))) (λ g at e. by_step m g at (ManagerEvent.Propose base change) (λ d is. tt) (step_of g (ManagerEvent.Propose base change)) refl e) e
  council_kept (Activate m) e = manager_step Goal w a m (λ g. manager_acts w m (step_of g ManagerEvent.Activate)) (λ g at e. by_step m g at ManagerEvent.Activate (λ d is. tt) (step_of g ManagerEvent.Activate) refl e) e
