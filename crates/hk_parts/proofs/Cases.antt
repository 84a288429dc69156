-- What an accepted event does: a live node makes a step, or something changes beside the nodes.
use Rattle.std.proofs.Common.{◌≡◌, ◌⊎◌, ◌≢◌, ℕ, Bool, true, false, cond, ◌+◌, List, [], ◌∷◌, ◌++◌, map, ◌∙◌, sym, refl, ap, inl, inr, ⊎_elim, Option, Some, None, Ok, ltb, append-nil}
use Rattle.std.proofs.lemmas.Bool.{cases_eq}
use Rattle.hk_base.specs.declared.stamp.NodeId.{NodeId}
use Rattle.hk_base.specs.declared.call.CallNo.{CallNo}
use Rattle.hk_base.specs.declared.call.Op.{Op}
use Rattle.hk_base.specs.declared.letter.Body.{Body}
use Rattle.hk_base.specs.declared.letter.Body.TheVariants as Body
use Rattle.hk_base.specs.declared.letter.Letter.{Letter}
use Rattle.hk_base.specs.declared.view.View.{View}
use Rattle.hk_clocks.specs.Clocks.{Paces}
use Rattle.hk_manager.specs.declared.event.ManagerEvent.{ManagerEvent}
use Rattle.hk_manager.specs.declared.event.ManagerEvent.TheVariants as ManagerEvent
use Rattle.hk_manager.specs.Manager.{ManagerState}
use Rattle.hk_manager.specs.Steps.{ManagerStepped, manager_step}
use Rattle.hk_register.specs.Machine.{In}
use Rattle.hk_node.specs.Node.{NodeState}
use Rattle.hk_node.specs.Stepped.{Stepped}
use Rattle.hk_node.specs.Calls.{called}
use Rattle.hk_node.specs.Copies.{asks_copy}
use Rattle.hk_node.specs.Steps.{receives, resent, replayed, asks_lease, installs, ticks, grants}
use Rattle.hk_event.specs.declared.event.Event.{Event}
use Rattle.hk_event.specs.declared.event.Event.TheVariants.{Call, Take, Tick, TickAll, Crash, Resend, Replay, Copy, Start, Agree, Install, Lease, AskLease, Propose, Activate}
use Rattle.hk_world.specs.World.{WorldState, Processes, process_at, put_process, node_of, numbered, last_view}
use Rattle.hk_world.specs.declared.process.Process.{Process}
use Rattle.hk_world.specs.declared.process.ManagerProcess.{ManagerProcess}
use Rattle.hk_effects.specs.Projection.{key_node, node_at}
use Rattle.hk_world.specs.Steps.{acting_of, Accepted, acts, aside, nothing, live, live_manager, manager_acts, with_manager_step, manager_shown, calls_at, ticks_at, manager_ticks_at, process_ticked, crashes_at, manager_crashes_at, joining, agreed_on, agrees, installs_at, leases_at, world_step}
use Rattle.hk_effects.proofs.Accepting.{alive, makes, with_processes, with_managers, live_manager_step, makes_manager_step, unmanaged_step, live_step, any_actor_step, any_takes_step, ticks_step, any_tick_step, manager_ticks_step, manager_crashes_step, crashes_step, any_starts_step, changes_step, installs_step, leases_step}
use Rattle.hk_effects.proofs.Frames.{accepted}
use Rattle.hk_effects.proofs.Processes.{numbered_node, node-put_same, node-put_other, process_of_node}
use Rattle.hk_effects.proofs.Rests.{ticked_node}
use Rattle.hk_effects.proofs.Worlds.{the_some, the_accepted, ticked_from}
use Rattle.hk_effects.proofs.Managers.{Says as ManagerSays, AreSaid, manager_says}
use Rattle.hk_parts.specs.ViewPart.{IsOfReplicas}

-- the step that a node makes at an event
abbrev pub Steps : WorldState → NodeState → Event → Stepped → Type 0
Steps w x (Call id key op) s = s ≡ called x (record { 0 = w.calls + 1 }) key op
Steps w x (Take n) s = (l : Letter) × (numbered n w.letters ≡ Some l) × (s ≡ receives x l)
Steps w x (Tick actor to) s = s ≡ ticks x to
Steps w x (Resend id key) s = s ≡ resent x key
Steps w x (Replay id key) s = s ≡ replayed x key
Steps w x (Copy id from room) s = s ≡ asks_copy x from room
Steps w x (Install id epoch) s = (v : View) × In w.views v × (s ≡ installs x v)
Steps w x (Lease id end) s = s ≡ grants x end
Steps w x (AskLease id manager) s = s ≡ asks_lease x manager
Steps w x event s = ⊥

pub record Stepping (w : WorldState) (event : Event) (a : Accepted) : Type 0 where
  pub id : NodeId
  pub x : NodeState
  pub there : process_at id w.processes ≡ Some (alive x)
  pub s : Stepped
  pub how : Steps w x event s
  pub calls : ℕ
  pub paces : Paces
  pub call : Option CallNo
  pub is : a ≡ accepted w id x s calls paces call

-- one more view is agreed
pub record OneMore (w : WorldState) (a : Accepted) : Type 0 where
  pub view : View
  pub views : a.world.views ≡ w.views ++ view ∷ []

-- each node has the rows that it had, or none
abbrev pub RowsFrom : WorldState → Processes → Type 0
RowsFrom w ps = (n : ℕ) (y : NodeState) → node_at n ps ≡ Some y → (y.rows ≡ []) ⊎ (x : NodeState) × (node_at n w.processes ≡ Some x) × (y.rows ≡ x.rows)

-- and no key sees a change
abbrev pub SeenSame : WorldState → Processes → Type 0
SeenSame w ps = (key : List ℕ) (n : ℕ) → key_node key (node_at n ps) ≡ key_node key (node_at n w.processes)

-- no node acts, and what is sent is between managers, or from managers to nodes
pub record Beside (w : WorldState) (a : Accepted) : Type 0 where
  pub acting : acting_of a ≡ None
  pub letters : List Letter
  pub sent : a.world.letters ≡ w.letters ++ letters
  pub silent : (l : Letter) → In letters l → IsOfReplicas l.body → ⊥
  pub views : (a.world.views ≡ w.views) ⊎ OneMore w a
  pub nodes : RowsFrom w a.world.processes
  pub seen : SeenSame w a.world.processes

abbrev pub EventCase : WorldState → Event → Accepted → Type 0
EventCase w event a = Stepping w event a ⊎ Beside w a

-- what a manager says is nothing of replicas
not_of_replicas : (held : View) (body : Body) → ManagerSays held body → IsOfReplicas body → ⊥
not_of_replicas held (Body.Inv k s kind content) says of = says
not_of_replicas held (Body.Ack k s top) says of = says
not_of_replicas held (Body.Val k s) says of = says
not_of_replicas held (Body.CopyAsk after room) says of = says
not_of_replicas held (Body.CopyGive after done items) says of = says
not_of_replicas held (Body.LeaseAsk asked) says of = of
not_of_replicas held (Body.LeaseGive end) says of = of
not_of_replicas held (Body.Prepare ballot) says of = of
not_of_replicas held (Body.Promise ballot vote) says of = of
not_of_replicas held (Body.Accept ballot view) says of = of
not_of_replicas held (Body.Accepted ballot) says of = of
not_of_replicas held (Body.Chosen view) says of = of
not_of_replicas held (Body.Activate view) says of = of

module _ (w : WorldState) where
  makes_case : (event : Event) (id : NodeId) (x : NodeState) → process_at id w.processes ≡ Some (alive x) → (s : Stepped) → Steps w x event s → (paces : Paces) (a : Accepted) → makes w id x s paces ≡ Ok a → EventCase w event a
  makes_case event id x at s how paces a e = inl (record { id = id; x = x; there = at; s = s; how = how; calls = w.calls; paces = paces; call = None; is = the_accepted a (accepted w id x s w.calls paces None) (Ok a) refl (sym e) })

  acts_case : (event : Event) (id : NodeId) (x : NodeState) → process_at id w.processes ≡ Some (alive x) → (s : Stepped) → Steps w x event s → (a : Accepted) → acts w id x s ≡ Ok a → EventCase w event a
  acts_case event id x at s how a e = makes_case event id x at s how w.paces a e

  call_case : (id : NodeId) (key : List ℕ) (op : Op) (x : NodeState) → process_at id w.processes ≡ Some (alive x) → (a : Accepted) → calls_at w id key op x ≡ Ok a → EventCase w (Call id key op) a
  call_case id key op x at a e =
      let call : CallNo = record { 0 = w.calls + 1 } in
      let s : Stepped = called x call key op in
      inl (record { id = id; x = x; there = at; s = s; how = refl; calls = w.calls + 1; paces = w.paces; call = Some call; is = the_accepted a (accepted w id x s (w.calls + 1) w.paces (Some call)) (Ok a) refl (sym e) })

  -- ---- rows
  ticked_rows : (to : ℕ) → RowsFrom w (map (process_ticked to) w.processes)
  ticked_rows to n y at =
      let p = process_of_node n y (map (process_ticked to) w.processes) at in
      let q = ticked_from to (numbered_node n) w.processes p.0 p.1 in
      let rows : p.0.node.rows ≡ q.0.node.rows = ⊎_elim (λ (s : p.0 ≡ q.0). ap (λ (z : Process). z.node.rows) s) (λ (s : p.0 ≡ record q.0 { node = (ticks q.0.node to).node }). ap (λ (z : Process). z.node.rows) s) q.2 in
      inr (q.0.node, ap node_of q.1, sym (ap (λ (z : NodeState). z.rows) p.2) ∙ rows)

  put_rows : (id : NodeId) (p : Process) → (p.node.rows ≡ []) ⊎ (x : NodeState) × (node_at id.0 w.processes ≡ Some x) × (p.node.rows ≡ x.rows) → RowsFrom w (put_process id p w.processes)
  put_rows id p from n y at = ⊎_elim
      (λ (same : n ≡ id.0).
      let there : node_at id.0 (put_process id p w.processes) ≡ Some y = rw same at at in
      let is : p.node ≡ y = the_some p.node y (sym (node-put_same id p w.processes) ∙ there) in
      rw (same, ← is) from)
      (λ (other : n ≢ id.0). inr (y, sym (node-put_other n id p w.processes other) ∙ at, refl)) (cases_eq n id.0)

  put_seen : (id : NodeId) (p : Process) → ((key : List ℕ) → key_node key (Some p.node) ≡ key_node key (node_at id.0 w.processes)) → SeenSame w (put_process id p w.processes)
  put_seen id p same key n = ⊎_elim
      (λ (is : n ≡ id.0). rw is (ap (key_node key) (node-put_same id p w.processes) ∙ same key))
      (λ (other : n ≢ id.0). ap (key_node key) (node-put_other n id p w.processes other)) (cases_eq n id.0)

  -- processes, managers and clocks alone change
  beside_case : (event : Event) (ps : Processes) (managers : List ManagerProcess) (paces : Paces) → RowsFrom w ps → SeenSame w ps → (a : Accepted) → aside (with_managers (with_processes w ps paces) managers) nothing ≡ Ok a → EventCase w event a
  beside_case event ps managers paces nodes seen a e =
      let b : Accepted = record { world = with_managers (with_processes w ps paces) managers; told = []; shown = nothing } in
      let is : a ≡ b = the_accepted a b (Ok a) refl (sym e) in
      inr (record {
        acting = ap acting_of is;
        letters = [];
        sent = ap (λ (b : Accepted). b.world.letters) is ∙ sym (append-nil w.letters);
        silent = λ l none. absurd none;
        views = inl (ap (λ (b : Accepted). b.world.views) is);
        nodes = rw is nodes;
        seen = rw is seen;
      })

  -- the nodes are as they were
  same_rows : RowsFrom w w.processes
  same_rows n y at = inr (y, at, refl)

  same_seen : SeenSame w w.processes
  same_seen key n = refl

  agreed_case : (event : Event) (v : View) (a : Accepted) → agreed_on w v ≡ Ok a → EventCase w event a
  agreed_case event v a e =
      let b : Accepted = record { world = record w { views = w.views ++ v ∷ [] }; told = []; shown = record nothing { view = Some v } } in
      let is : a ≡ b = the_accepted a b (Ok a) refl (sym e) in
      inr (record {
        acting = ap acting_of is;
        letters = [];
        sent = ap (λ (b : Accepted). b.world.letters) is ∙ sym (append-nil w.letters);
        silent = λ l none. absurd none;
        views = inr (record { view = v; views = ap (λ (b : Accepted). b.world.views) is });
        nodes = rw is same_rows;
        seen = rw is same_seen;
      })

  -- a manager makes a step: what it holds then may be one more view
  manager_case : (event : Event) (m : ℕ) (step : ManagerEvent) (a : Accepted) → live_manager w m (λ x. manager_acts w m (manager_step x step)) ≡ Ok a → EventCase w event a
  manager_case event m step a e = live_manager_step (EventCase w event a) w a m (λ x. manager_acts w m (manager_step x step)) (λ x at e.
      makes_manager_step (EventCase w event a) w a m (manager_step x step) (λ s is e. made x s (manager_says x step s is) e) e) e
    where
      made : (x : ManagerState) (s : ManagerStepped) → AreSaid x.held s.letters → aside (with_manager_step w m s) (manager_shown w m s) ≡ Ok a → EventCase w event a
      made x s says e =
          let b : Accepted = record { world = with_manager_step w m s; told = []; shown = manager_shown w m s } in
          let same : a ≡ b = the_accepted a b (Ok a) refl (sym e) in
          inr (record {
            acting = ap acting_of same;
            letters = s.letters;
            sent = ap (λ (b : Accepted). b.world.letters) same;
            silent = λ l h. not_of_replicas x.held l.body (says l h);
            views = by_later s.manager.held (ltb (last_view w.views).epoch s.manager.held.epoch) (ap (λ (b : Accepted). b.world.views) same);
            nodes = rw same same_rows;
            seen = rw same same_seen;
          })
        where
          by_later : (held : View) (later : Bool) → a.world.views ≡ cond later (w.views ++ held ∷ []) w.views → (a.world.views ≡ w.views) ⊎ OneMore w a
          by_later held true is = inr (record { view = held; views = is })
          by_later held false is = inl is

  case_at : (event : Event) (a : Accepted) → world_step w event ≡ Ok a → EventCase w event a
  case_at (Call id key op) a e = live_step (EventCase w (Call id key op) a) w a id (calls_at w id key op) (λ x at e. call_case id key op x at a e) e
  case_at (Take n) a e = any_takes_step (EventCase w (Take n) a) w a n
      (λ l found id x at e. acts_case (Take n) id x at (receives x l) (l, found, refl) a e)
      (λ l found m e. manager_case (Take n) m (ManagerEvent.Receive l) a e) e
  case_at (Tick actor to) a e = any_actor_step (EventCase w (Tick actor to) a) w a actor (ticks_at w to) (manager_ticks_at w to)
      (λ id x at e. ticks_step (EventCase w (Tick actor to) a) w a to id x (λ paces e. makes_case (Tick actor to) id x at (ticks x to) refl paces a e) e)
      (λ m e. live_manager_step (EventCase w (Tick actor to) a) w a m (manager_ticks_at w to m) (λ x at e.
      manager_ticks_step (EventCase w (Tick actor to) a) w a to m x (λ managers paces e. beside_case (Tick actor to) w.processes managers paces same_rows same_seen a e) e) e) e
  case_at (TickAll to) a e = any_tick_step (EventCase w (TickAll to) a) w a to
      (λ managers paces e. beside_case (TickAll to) (map (process_ticked to) w.processes) managers paces (ticked_rows to) (λ key n. ticked_node key to n w.processes) a e) e
  case_at (Crash actor) a e = any_actor_step (EventCase w (Crash actor) a) w a actor (crashes_at w) (manager_crashes_at w)
      (λ id x at e. crashes_step (EventCase w (Crash actor) a) w a id x
      (λ paces e. beside_case (Crash actor) (put_process id (record { node = x; crashed = true }) w.processes) w.managers paces (put_rows id (record { node = x; crashed = true }) (inr (x, ap node_of at, refl)))
      (put_seen id (record { node = x; crashed = true }) (λ key. ap (key_node key) (sym (ap node_of at)))) a e) e)
      (λ m e. live_manager_step (EventCase w (Crash actor) a) w a m (manager_crashes_at w m) (λ x at e.
      manager_crashes_step (EventCase w (Crash actor) a) w a m x (λ managers paces e. beside_case (Crash actor) w.processes managers paces same_rows same_seen a e) e) e) e
  case_at (Resend id key) a e = live_step (EventCase w (Resend id key) a) w a id (λ node. acts w id node (resent node key)) (λ x at e. acts_case (Resend id key) id x at (resent x key) refl a e) e
  case_at (Replay id key) a e = live_step (EventCase w (Replay id key) a) w a id (λ node. acts w id node (replayed node key)) (λ x at e. acts_case (Replay id key) id x at (replayed x key) refl a e) e
  case_at (Copy id from room) a e = live_step (EventCase w (Copy id from room) a) w a id (λ node. acts w id node (asks_copy node from room)) (λ x at e. acts_case (Copy id from room) id x at (asks_copy x from room) refl a e) e
  -- a joiner has no rows, and no key sees it yet
  case_at (Start id) a e = any_starts_step (EventCase w (Start id) a) w a id
      (λ at may paces e. beside_case (Start id) (put_process id (joining w id) w.processes) w.managers paces (put_rows id (joining w id) (inl refl))
      (put_seen id (joining w id) (λ key. sym (ap (λ (o : Option Process). key_node key (node_of o)) at))) a e) e
  case_at (Agree change) a e = unmanaged_step (EventCase w (Agree change) a) w a (agrees w (last_view w.views) change)
      (λ e. changes_step (EventCase w (Agree change) a) w a change (λ v how e. agreed_case (Agree change) v a e) e) e
  case_at (Install id epoch) a e = unmanaged_step (EventCase w (Install id epoch) a) w a (live w id (λ node. installs_at (numbered epoch w.views) w id node))
      (λ e. live_step (EventCase w (Install id epoch) a) w a id (λ node. installs_at (numbered epoch w.views) w id node)
      (λ x at e. installs_step (EventCase w (Install id epoch) a) w a epoch id x (λ v may e. acts_case (Install id epoch) id x at (installs x v) (v, may.agreed, refl) a e) e) e) e
  case_at (Lease id end) a e = unmanaged_step (EventCase w (Lease id end) a) w a (live w id (leases_at w id end))
      (λ e. live_step (EventCase w (Lease id end) a) w a id (leases_at w id end) (λ x at e. leases_step (EventCase w (Lease id end) a) w a id end x (λ inside e. acts_case (Lease id end) id x at (grants x end) refl a e) e) e) e
  case_at (AskLease id manager) a e = live_step (EventCase w (AskLease id manager) a) w a id (λ node. acts w id node (asks_lease node manager)) (λ x at e. acts_case (AskLease id manager) id x at (asks_lease x manager) refl a e) e
  case_at (Propose manager base change) a e = manager_case (Propose manager base change) manager (ManagerEvent.Propose base change) a e
  case_at (Activate manager) a e = manager_case (Activate manager) manager ManagerEvent.Activate a e

pub event_case : (w : WorldState) (event : Event) (a : Accepted) → world_step w event ≡ Ok a → EventCase w event a
event_case w event a e = case_at w event a e
