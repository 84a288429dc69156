-- Each accepted event of a world with managers keeps that a node's view is the one that managers learned for its epoch.
use Rattle.std.proofs.Common.{◌≡◌, ◌≢◌, ◌⊎◌, ◌≤◌, ◌+◌, ◌&&◌, ℕ, List, [], ◌∷◌, ◌++◌, map, length, Bool, true, false, cond, Option, Some, None, Result, Ok, Err, nat_lt, nat_eq, refl, sym, subst, ◌∙◌, inl, inr, ⊎_elim}
use Rattle.std.specs.BTreeMap.{is_at}
use Rattle.hk_base.specs.declared.stamp.NodeId.{NodeId}
use Rattle.hk_base.specs.declared.call.CallNo.{CallNo}
use Rattle.hk_base.specs.declared.call.Op.{Op}
use Rattle.hk_base.specs.declared.view.View.{View}
use Rattle.hk_base.specs.declared.letter.Actor.{Actor}
use Rattle.hk_base.specs.declared.letter.Actor.TheVariants.{Node, Manager}
use Rattle.hk_base.specs.declared.letter.Letter.{Letter}
use Rattle.hk_base.specs.declared.letter.Body.{Body}
use Rattle.hk_base.specs.declared.letter.Body.TheVariants as Body
use Rattle.hk_key.specs.Table.{resend}
use Rattle.hk_clocks.specs.declared.fault.ClockFault.{ClockFault}
use Rattle.hk_clocks.specs.Clocks.{ClockState}
use Rattle.hk_clocks.specs.Steps.{clock_step, greatest_clock}
use Rattle.hk_clocks.specs.Steps.{ClockEvent}
use Rattle.hk_manager.specs.declared.event.ManagerEvent.TheVariants as ManagerEvent
use Rattle.hk_manager.specs.declared.fault.ManagerFault.{ManagerFault}
use Rattle.hk_manager.specs.Manager.{ManagerState}
use Rattle.hk_manager.specs.Steps.{ManagerStepped, manager_step as step_of, manager_ticks}
use Rattle.hk_node.specs.Rows.{find_row}
use Rattle.hk_node.specs.Node.{NodeState, epoch_of, is_other}
use Rattle.hk_node.specs.Stepped.{Stepped, idle}
use Rattle.hk_node.specs.Calls.{called}
use Rattle.hk_node.specs.Copies.{asks_copy}
use Rattle.hk_node.specs.Steps.{heard, received, is_addressed, receives_from, receives, resent, replayed, asks_lease, ticks}
use Rattle.hk_earned.proofs.Places.{which_node}
use Rattle.hk_event.specs.declared.event.Event.{Event}
use Rattle.hk_event.specs.declared.event.Event.TheVariants.{Call, Take, Tick, TickAll, Crash, Resend, Replay, Copy, Start, Agree, Install, Lease, AskLease, Propose, Activate}
use Rattle.hk_world.specs.declared.process.Process.{Process}
use Rattle.hk_event.specs.declared.refused.Refused.{Refused}
use Rattle.hk_event.specs.declared.refused.Refused.TheVariants.{NotMember}
use Rattle.hk_world.specs.declared.shown.Shown.{Shown}
use Rattle.hk_world.specs.World.{WorldState, Processes, by_number, process_at, put_process, put_manager, clocks_of, paces_by, numbered, last_view}
use Rattle.hk_world.specs.Steps.{Accepted, nothing, aside, with_step, shown_of, acts, learned, with_manager_step, manager_shown, manager_acts, calls_at, takes, ticked_by, ticks_at, manager_ticked_by, manager_ticks_at, is_live, process_ticked, manager_ticked, all_ticked_by, crashes_at, manager_crashes_at, joining, may_join, starts_at, agrees, installs_at, leases_at, live, world_step}
use Rattle.hk_world.proofs.Processes.{put_same}
use Rattle.hk_managed.proofs.Places.{put_other, numbered_kept}
use Rattle.hk_managed.proofs.NodeSteps.{found_quiet, given_quiet, called_quiet, replayed_quiet, asks_quiet, received_quiet, activated_heard}
use Rattle.hk_managed.proofs.Facts.{alive}
use Rattle.hk_managed.proofs.Accepting.{the_accepted, node_step, manager_step, actor_step, not_told}
use Rattle.hk_managed.proofs.Agreeing.{IsCouncil}
use Rattle.hk_managed.proofs.Councils.{sent_at}

-- the node's view, if it has one, is that of its epoch
abbrev pub HasView : List View → NodeState → Type 0
HasView views x = (v : View) → x.view ≡ Some v → numbered v.epoch views ≡ Some v

abbrev pub ViewIn : List View → Option Process → Type 0
ViewIn views None = Unit
ViewIn views (Some p) = HasView views p.node

abbrev pub AllViews : List View → Processes → Type 0
AllViews views ps = (n : NodeId) → ViewIn views (process_at n ps)

-- ---- what a letter makes of a node's view
record IsBegun (x : NodeState) (from : Actor) (body : Body) (s : Stepped) : Type 0 where
  manager : ℕ
  view : View
  sender : from ≡ Manager manager
  says : body ≡ Body.Activate view
  now : s.node.view ≡ Some view

abbrev Ways : NodeState → Actor → Body → Stepped → Type 0
Ways x from body s = (s.node.view ≡ x.view) ⊎ IsBegun x from body s

heard_view : (body : Body) (x : NodeState) (m : ℕ) → Ways x (Manager m) body (heard body x m)
heard_view (Body.LeaseGive end) x m = inl refl
heard_view (Body.Activate view) x m = ⊎_elim inl (λ now. inr (record { manager = m; view = view; sender = refl; says = refl; now = now.0 })) (activated_heard x m view).view_now
heard_view (Body.Inv k s kind content) x m = inl refl
heard_view (Body.Ack k s top) x m = inl refl
heard_view (Body.Val k s) x m = inl refl
heard_view (Body.CopyAsk after room) x m = inl refl
heard_view (Body.CopyGive after done items) x m = inl refl
heard_view (Body.LeaseAsk asked) x m = inl refl
heard_view (Body.Prepare ballot) x m = inl refl
heard_view (Body.Promise ballot vote) x m = inl refl
heard_view (Body.Accept ballot view) x m = inl refl
heard_view (Body.Accepted ballot) x m = inl refl
heard_view (Body.Chosen view) x m = inl refl

receives_view : (x : NodeState) (l : Letter) → Ways x l.from l.body (receives x l)
receives_view x l = by_sender l.from
  where
    by_heard : (b : Bool) (m : ℕ) → Ways x (Manager m) l.body (cond b (heard l.body x m) (idle x))
    by_heard true m = heard_view l.body x m
    by_heard false m = inl refl

    by_sender : (from : Actor) → Ways x from l.body (receives_from from x l)
    by_sender (Manager m) = by_heard (is_addressed x l.to && nat_lt m x.managers) m
    by_sender (Node n) = inl (given_quiet x (received l.body x n) (is_addressed x l.to && (nat_eq l.epoch (epoch_of x) && is_other x n)) (received_quiet l.body x n)).view

asks_view : (x : NodeState) (m : ℕ) → (asks_lease x m).node.view ≡ x.view
asks_view x m = at (nat_lt m x.managers)
  where
    at : (b : Bool) → (cond b (record { node = x; letters = record { epoch = epoch_of x; from = Node x.id; to = Manager m; body = Body.LeaseAsk x.clock } ∷ []; told = []; installed = None }) (idle x)).node.view ≡ x.view
    at true = refl
    at false = refl

-- ---- processes that are put, clocks that rise, views that are learned
put_views : (views : List View) (ps : Processes) (id : NodeId) (p : Process) → AllViews views ps → HasView views p.node → AllViews views (put_process id p ps)
put_views views ps id p was now n = ⊎_elim
    (λ (e : n ≡ id). subst (λ (k : NodeId). ViewIn views (process_at k (put_process id p ps))) (sym e) (subst (ViewIn views) (sym (put_same id p ps)) now))
    (λ (d : n ≢ id). subst (ViewIn views) (sym (put_other n id p ps d)) (was n)) (which_node n id)

ticked_views : (views : List View) (to : ℕ) (n : NodeId) (ps : Processes) → ViewIn views (process_at n ps) → ViewIn views (process_at n (map (process_ticked to) ps))
ticked_views views to n [] h = tt
ticked_views views to n (p ∷ ps) h = at (is_at (by_number n) p.0) (is_live p) h (ticked_views views to n ps)
  where
    at : (b c : Bool) → ViewIn views (cond b (Some p.1) (process_at n ps)) → (ViewIn views (process_at n ps) → ViewIn views (process_at n (map (process_ticked to) ps))) →
        ViewIn views (cond b (Some (cond c (record p.1 { node = (ticks p.1.node to).node }) p.1)) (process_at n (map (process_ticked to) ps)))
    at true true h more = h
    at true false h more = h
    at false c h more = more h

learned_views : (views : List View) (held : View) (o : Option Process) → ViewIn views o → ViewIn (learned views held) o
learned_views views held None h = tt
learned_views views held (Some p) h = at (nat_lt (last_view views).epoch held.epoch)
  where
    at : (b : Bool) → HasView (cond b (views ++ held ∷ []) views) p.node
    at true v is = numbered_kept views (held ∷ []) v.epoch v (h v is)
    at false v is = h v is

module _ (w : WorldState) (all : AllViews w.views w.processes) (council : IsCouncil w) (some : 1 ≤ length w.managers) (a : Accepted) where
  abbrev Goal : Type 0
  Goal = AllViews a.world.views a.world.processes

  goal_of : (b : Accepted) (r : Result Accepted Refused) → r ≡ Ok b → r ≡ Ok a → AllViews b.world.views b.world.processes → Goal
  goal_of b r p q g = subst (λ (z : Accepted). AllViews z.world.views z.world.processes) (the_accepted r b a p q) g

  has : (id : NodeId) (x : NodeState) → process_at id w.processes ≡ Some (alive x) → HasView w.views x
  has id x at = subst (ViewIn w.views) at (all id)

  -- the same view as before
  as_was : (id : NodeId) (x y : NodeState) → process_at id w.processes ≡ Some (alive x) → y.view ≡ x.view → HasView w.views y
  as_was id x y at same v is = has id x at v (sym same ∙ is)

  by_node : (id : NodeId) (x : NodeState) (s : Stepped) → HasView w.views s.node → acts w id x s ≡ Ok a → Goal
  by_node id x s now e = goal_of (record { world = with_step w id s; told = s.told; shown = shown_of w id x s None }) (acts w id x s) refl e (put_views w.views w.processes id (alive s.node) all now)

  by_call : (id : NodeId) (x : NodeState) → process_at id w.processes ≡ Some (alive x) → (key : List ℕ) (op : Op) → calls_at w id key op x ≡ Ok a → Goal
  by_call id x at key op e =
      let call : CallNo = record { 0 = w.calls + 1 } in
      let s : Stepped = called x call key op in
      goal_of (record { world = record (with_step w id s) { calls = w.calls + 1 }; told = s.told; shown = shown_of w id x s (Some call) }) (calls_at w id key op x) refl e
      (put_views w.views w.processes id (alive s.node) all (as_was id x s.node at (called_quiet x call key op).view))

  by_tick : (to : ℕ) (id : NodeId) (x : NodeState) → process_at id w.processes ≡ Some (alive x) → (r : Result ClockState ClockFault) → ticked_by r w id to x ≡ Ok a → Goal
  by_tick to id x at (Ok clocks) e =
      let s : Stepped = ticks x to in
      goal_of (record { world = record (with_step w id s) { paces = clocks.paces }; told = s.told; shown = shown_of w id x s None }) (ticked_by (Ok clocks) w id to x) refl e
      (put_views w.views w.processes id (alive s.node) all (as_was id x s.node at refl))
  by_tick to id x at (Err fault) e = absurd cc

  -- beside the nodes
  by_aside : (next : WorldState) (shown : Shown) → AllViews next.views next.processes → aside next shown ≡ Ok a → Goal
  by_aside next shown g e = goal_of (record { world = next; told = []; shown = shown }) (aside next shown) refl e g

  by_manager : (m : ℕ) (r : Result ManagerStepped ManagerFault) → manager_acts w m r ≡ Ok a → Goal
  by_manager m (Ok s) e = by_aside (with_manager_step w m s) (manager_shown w m s) (λ n. learned_views w.views s.manager.held (process_at n w.processes) (all n)) e
  by_manager m (Err fault) e = absurd cc

  by_manager_tick : (to m : ℕ) (g : ManagerState) (r : Result ClockState ClockFault) → manager_ticked_by r w m to g ≡ Ok a → Goal
  by_manager_tick to m g (Ok clocks) e = by_aside (record w { managers = put_manager m (record { manager = (manager_ticks g to).manager; crashed = false }) w.managers; paces = clocks.paces }) nothing all e
  by_manager_tick to m g (Err fault) e = absurd cc

  by_all : (to : ℕ) (r : Result ClockState ClockFault) → all_ticked_by r w to ≡ Ok a → Goal
  by_all to (Ok clocks) e = by_aside (record w { processes = map (process_ticked to) w.processes; managers = map (manager_ticked to) w.managers; paces = clocks.paces }) nothing (λ n. ticked_views w.views to n w.processes (all n)) e
  by_all to (Err fault) e = absurd cc

  -- what is installed is the learned view of its epoch
  by_receipt : (n : ℕ) (l : Letter) → numbered n w.letters ≡ Some l → (id : NodeId) (x : NodeState) → process_at id w.processes ≡ Some (alive x) → HasView w.views (receives x l).node
  by_receipt n l found id x at = ⊎_elim
      (λ (same : (receives x l).node.view ≡ x.view). as_was id x (receives x l).node at same)
      (λ (b : IsBegun x l.from l.body (receives x l)) (v : View) (is : (receives x l).node.view ≡ Some v).
      let same : b.view ≡ v = the_view b.view v (sym b.now ∙ is) in
      subst (λ (u : View). numbered u.epoch w.views ≡ Some u) same (council.begun l b.manager b.view (sent_at n w.letters l found) b.sender b.says)) (receives_view x l)
    where
      the_view : (u v : View) → Some u ≡ Some v → u ≡ v
      the_view u v e = cc

  by_letter : (n : ℕ) (o : Option Letter) → numbered n w.letters ≡ o → takes w o ≡ Ok a → Goal
  by_letter n None found e = absurd cc
  by_letter n (Some l) found e = actor_step Goal w a l.to (λ id node. acts w id node (receives node l)) (λ m g. manager_acts w m (step_of g (ManagerEvent.Receive l)))
      (λ id x to at e. by_node id x (receives x l) (by_receipt n l found id x at) e) (λ m g to at e. by_manager m (step_of g (ManagerEvent.Receive l)) e) e

  by_start : (id : NodeId) (o : Option Process) → starts_at o w id ≡ Ok a → Goal
  by_start id (Some p) e = absurd cc
  by_start id None e = by_member (may_join w id) e
    where
      no_view_yet : HasView w.views (joining w id).node
      no_view_yet v is = absurd cc

      by_member : (b : Bool) → cond b (aside (record w { processes = put_process id (joining w id) w.processes; paces = paces_by w (ClockEvent.Start (Node id) (greatest_clock 1 w.paces)) }) nothing) (Err NotMember) ≡ Ok a → Goal
      by_member true e = by_aside (record w { processes = put_process id (joining w id) w.processes; paces = paces_by w (ClockEvent.Start (Node id) (greatest_clock 1 w.paces)) }) nothing (put_views w.views w.processes id (joining w id) all no_view_yet) e
      by_member false e = absurd cc

  pub views_kept : (event : Event) → world_step w event ≡ Ok a → Goal
  views_kept (Call id key op) e = node_step Goal w a id (calls_at w id key op) (λ x at e. by_call id x at key op e) e
  views_kept (Take n) e = by_letter n (numbered n w.letters) refl e
  views_kept (Tick actor to) e = actor_step Goal w a actor (ticks_at w to) (manager_ticks_at w to)
      (λ id x q at e. by_tick to id x at (clock_step (clocks_of w) (ClockEvent.Tick (Node id) to)) e) (λ m g q at e. by_manager_tick to m g (clock_step (clocks_of w) (ClockEvent.Tick (Manager m) to)) e) e
  views_kept (TickAll to) e = by_all to (clock_step (clocks_of w) (ClockEvent.TickAll to)) e
  views_kept (Crash actor) e = actor_step Goal w a actor (crashes_at w) (manager_crashes_at w)
      (λ id x q at e. by_aside (record w { processes = put_process id (record { node = x; crashed = true }) w.processes; paces = paces_by w (ClockEvent.Stop (Node id)) }) nothing (put_views w.views w.processes id (record { node = x; crashed = true }) all (has id x at)) e)
      (λ m g q at e. by_aside (record w { managers = put_manager m (record { manager = g; crashed = true }) w.managers; paces = paces_by w (ClockEvent.Stop (Manager m)) }) nothing all e) e
  views_kept (Resend id key) e = node_step Goal w a id (λ node. acts w id node (resent node key)) (λ x at e. by_node id x (resent x key) (as_was id x (resent x key).node at (found_quiet x key resend (find_row key x.rows)).view) e) e
  views_kept (Replay id key) e = node_step Goal w a id (λ node. acts w id node (replayed node key)) (λ x at e. by_node id x (replayed x key) (as_was id x (replayed x key).node at (replayed_quiet x key).view) e) e
  views_kept (Copy id from room) e = node_step Goal w a id (λ node. acts w id node (asks_copy node from room)) (λ x at e. by_node id x (asks_copy x from room) (as_was id x (asks_copy x from room).node at (asks_quiet x from room).view) e) e
  views_kept (Start id) e = by_start id (process_at id w.processes) e
  views_kept (Agree change) e = not_told Goal w a w.managers (agrees w (last_view w.views) change) some e
  views_kept (Install id epoch) e = not_told Goal w a w.managers (live w id (λ node. installs_at (numbered epoch w.views) w id node)) some e
  views_kept (Lease id end) e = not_told Goal w a w.managers (live w id (leases_at w id end)) some e
  views_kept (AskLease id m) e = node_step Goal w a id (λ node. acts w id node (asks_lease node m)) (λ x at e. by_node id x (asks_lease x m) (as_was id x (asks_lease x m).node at (asks_view x m)) e) e
  views_kept (Propose m base change) e = manager_step Goal w a m (λ g. manager_acts w m (step_of g (ManagerEvent.Propose base change))) (λ g at e. by_manager m (step_of g (ManagerEvent.Propose base change)) e) e
  views_kept (Activate m) e = manager_step Goal w a m (λ g. manager_acts w m (step_of g ManagerEvent.Activate)) (λ g at e. by_manager m (step_of g ManagerEvent.Activate) e) e
