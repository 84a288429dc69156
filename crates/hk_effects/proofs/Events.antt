-- Each event of a world is, for each key, one effect of the register, or two.
use Rattle.std.proofs.Common.{◌≡◌, ◌≢◌, ℕ, ◌+◌, Bool, true, false, cond, List, [], ◌∷◌, ◌++◌, map, ◌∙◌, sym, refl, ap, ⊎_elim, Option, Some, None, ltb}
use Rattle.std.proofs.lemmas.Bool.{cases_eq}
use Rattle.hk_base.specs.declared.stamp.NodeId.{NodeId}
use Rattle.hk_base.specs.declared.view.View.{View}
use Rattle.hk_base.specs.declared.view.Change.{Change as ViewChange}
use Rattle.hk_base.specs.declared.letter.Actor.{Actor}
use Rattle.hk_base.specs.declared.letter.Actor.TheVariants as Actor
use Rattle.hk_base.specs.declared.letter.Body.TheVariants.{LeaseAsk}
use Rattle.hk_clocks.specs.Clocks.{Paces}
use Rattle.hk_manager.specs.declared.event.ManagerEvent.TheVariants as ManagerEvent
use Rattle.hk_register.specs.Parts.{Parts}
use Rattle.hk_node.specs.Node.{NodeState, epoch_of}
use Rattle.hk_node.specs.Stepped.{Stepped, idle}
use Rattle.hk_node.specs.Copies.{asks_copy}
use Rattle.hk_node.specs.Steps.{resent, replayed, asks_lease, installs, ticks, grants}
use Rattle.hk_event.specs.declared.event.Event.{Event}
use Rattle.hk_event.specs.declared.event.Event.TheVariants.{Call, Take, Tick, TickAll, Crash, Resend, Replay, Copy, Start, Agree, Install, Lease, AskLease, Propose, Activate}
use Rattle.hk_world.specs.declared.process.Process.{Process}
use Rattle.hk_world.specs.World.{WorldState, process_at, put_process, node_of, numbered, last_view}
use Rattle.hk_world.specs.Steps.{Accepted, acts, aside, nothing, live, live_actor, ticks_at, manager_ticks_at, process_ticked, all_tick, crashes_at, manager_crashes_at, joining, starts_at, unmanaged as only_unmanaged, agrees as changes_view, installs_at, leases_at, world_step}
use Rattle.hk_effects.specs.Projection.{key_node, node_at, letters_of, Trace, project}
use Rattle.hk_effects.specs.Own.{IsOwn, IsTrace, Agrees}
use Rattle.hk_effects.specs.Laws.{EventIsEffects}
use Rattle.hk_effects.proofs.Frames.{items_said}
use Rattle.hk_effects.proofs.Processes.{node-put_same, node-put_other}
use Rattle.hk_effects.proofs.Nodes.{quiet_node}
use Rattle.hk_effects.proofs.Rests.{ticked_node}
use Rattle.hk_effects.proofs.Accepting.{alive, makes, with_processes, with_managers, live_manager_step, unmanaged_step, live_step, any_actor_step, ticks_step, any_tick_step, manager_ticks_step, manager_crashes_step, crashes_step, any_starts_step, changes_step, installs_step, leases_step}
use Rattle.hk_effects.proofs.LiveSteps.{accepts, IsEffects, IsLive, OwesLive, here, lives, stepped_effect, aside_effect}
use Rattle.hk_effects.proofs.Takes.{GivesOwed, TakesOwed, InstallsOwed, manager_effect, take_effect}
use Rattle.hk_effects.proofs.Calls.{call_effect}
use Rattle.hk_effects.proofs.Rows.{resend_owed, replay_owed, asks_owed}

module _ (V : ℕ → List ℕ) (key : List ℕ) (t : Trace) (parts : Parts V (project key t)) (own : IsOwn t.world) (agrees : Agrees t.world V) (tok : IsTrace t) where
  abbrev Is : Event → Accepted → Type 0
  Is event a = IsEffects V key t parts own agrees tok event a

  -- the step of a live node, with the clocks behind it
  makes_effect : (event : Event) (id : NodeId) (x : NodeState) → x.id ≡ id → (alive : IsLive V key t parts own agrees tok x) (o : Stepped) (paces : Paces) (a : Accepted) →
      OwesLive V key t parts own agrees tok x alive o (items_said key event (t.world.calls + 1) x o) → makes t.world id x o paces ≡ accepts a → Is event a
  makes_effect event id x same alive o paces a owed e = stepped_effect V key t parts own agrees tok event t.world.calls paces None id x same alive o a owed e

  -- an event that lets a live node make a step, and leaves the clocks
  acts_effect : (event : Event) (id : NodeId) (step : NodeState → Stepped) (a : Accepted) →
      ((x : NodeState) (alive : IsLive V key t parts own agrees tok x) → OwesLive V key t parts own agrees tok x alive (step x) (items_said key event (t.world.calls + 1) x (step x))) →
      (x : NodeState) → process_at id t.world.processes ≡ Some (alive x) → acts t.world id x (step x) ≡ accepts a → Is event a
  acts_effect event id step a owed x at e = let l = lives V key t parts own agrees tok id x at in makes_effect event id x l.0 l.1 (step x) t.world.paces a (owed x l.1) e

  -- a step that changes nothing of any key
  calm_step : (x : NodeState) (alive : IsLive V key t parts own agrees tok x) (y : NodeState) → key_node key (Some y) ≡ key_node key (Some x) → OwesLive V key t parts own agrees tok x alive (idle y) []
  calm_step x alive y same = quiet_node V (project key t) parts key x (here V key t parts own agrees tok x alive) (idle y) [] same refl refl

  -- no node acts, and nothing is sent
  beside : (event : Event) (next : WorldState) (v : Option View) (a : Accepted) → ((m : ℕ) → key_node key (node_at m next.processes) ≡ key_node key (node_at m t.world.processes)) →
      next.letters ≡ t.world.letters → aside next (record nothing { view = v }) ≡ accepts a → Is event a
  beside event next v a same letters e = aside_effect V key t parts own agrees tok event next (record nothing { view = v }) a refl same (ap (letters_of key) letters) e

  -- ---- clocks
  tick_effect : (actor : Actor) (to : ℕ) (a : Accepted) → live_actor t.world actor (ticks_at t.world to) (manager_ticks_at t.world to) ≡ accepts a → Is (Tick actor to) a
  tick_effect actor to a e = any_actor_step (Is (Tick actor to) a) t.world a actor (ticks_at t.world to) (manager_ticks_at t.world to)
      (λ id x at e. ticks_step (Is (Tick actor to) a) t.world a to id x (λ paces e.
      let l = lives V key t parts own agrees tok id x at in makes_effect (Tick actor to) id x l.0 l.1 (ticks x to) paces a (calm_step x l.1 (ticks x to).node refl) e) e)
      (λ m e. live_manager_step (Is (Tick actor to) a) t.world a m (manager_ticks_at t.world to m) (λ x at e.
      manager_ticks_step (Is (Tick actor to) a) t.world a to m x
      (λ managers paces e. beside (Tick actor to) (with_managers (with_processes t.world t.world.processes paces) managers) None a (λ n. refl) refl e) e) e) e

  tick_all_effect : (to : ℕ) (a : Accepted) → all_tick t.world to ≡ accepts a → Is (TickAll to) a
  tick_all_effect to a e = any_tick_step (Is (TickAll to) a) t.world a to
      (λ managers paces e. beside (TickAll to) (with_managers (with_processes t.world (map (process_ticked to) t.world.processes) paces) managers) None a (λ m. ticked_node key to m t.world.processes) refl e) e

  -- ---- crashes and starts
  crash_effect : (actor : Actor) (a : Accepted) → live_actor t.world actor (crashes_at t.world) (manager_crashes_at t.world) ≡ accepts a → Is (Crash actor) a
  crash_effect actor a e = any_actor_step (Is (Crash actor) a) t.world a actor (crashes_at t.world) (manager_crashes_at t.world)
      (λ id x at e. crashes_step (Is (Crash actor) a) t.world a id x (λ paces e.
      let dead : Process = record { node = x; crashed = true } in
      beside (Crash actor) (with_processes t.world (put_process id dead t.world.processes) paces) None a
      (λ m. ap (key_node key) (⊎_elim
      (λ (is : m ≡ id.0). rw is (node-put_same id dead t.world.processes ∙ sym (ap node_of at)))
      (λ (other : m ≢ id.0). node-put_other m id dead t.world.processes other) (cases_eq m id.0))) refl e) e)
      (λ m e. live_manager_step (Is (Crash actor) a) t.world a m (manager_crashes_at t.world m) (λ x at e.
      manager_crashes_step (Is (Crash actor) a) t.world a m x
      (λ managers paces e. beside (Crash actor) (with_managers (with_processes t.world t.world.processes paces) managers) None a (λ n. refl) refl e) e) e) e

  start_effect : (id : NodeId) (a : Accepted) → starts_at (process_at id t.world.processes) t.world id ≡ accepts a → Is (Start id) a
  start_effect id a e = any_starts_step (Is (Start id) a) t.world a id (λ at may paces e.
      let new : Process = joining t.world id in
      beside (Start id) (with_processes t.world (put_process id new t.world.processes) paces) None a
      (λ m. ⊎_elim
      (λ (is : m ≡ id.0).
      let none : key_node key (node_at id.0 t.world.processes) ≡ key_node key None = ap (λ (o : Option Process). key_node key (node_of o)) at in
      let some : key_node key (node_at id.0 (put_process id new t.world.processes)) ≡ key_node key None = ap (key_node key) (node-put_same id new t.world.processes) in
      rw is (some ∙ sym none))
      (λ (other : m ≢ id.0). ap (key_node key) (node-put_other m id new t.world.processes other)) (cases_eq m id.0)) refl e) e

  -- ---- views and leases
  agree_effect : (change : ViewChange) (a : Accepted) → only_unmanaged t.world.managers (changes_view t.world (last_view t.world.views) change) ≡ accepts a → Is (Agree change) a
  agree_effect change a e = unmanaged_step (Is (Agree change) a) t.world a (changes_view t.world (last_view t.world.views) change) (λ e.
      changes_step (Is (Agree change) a) t.world a change
      (λ v how e. beside (Agree change) (record t.world { views = t.world.views ++ v ∷ [] }) (Some v) a (λ m. refl) refl e) e) e

  install_effect : InstallsOwed V key t parts own agrees tok → (id : NodeId) (epoch : ℕ) (a : Accepted) →
      only_unmanaged t.world.managers (live t.world id (λ node. installs_at (numbered epoch t.world.views) t.world id node)) ≡ accepts a → Is (Install id epoch) a
  install_effect owed id epoch a e = unmanaged_step (Is (Install id epoch) a) t.world a (live t.world id (λ node. installs_at (numbered epoch t.world.views) t.world id node)) (λ e.
      live_step (Is (Install id epoch) a) t.world a id (λ node. installs_at (numbered epoch t.world.views) t.world id node) (λ x at e.
      installs_step (Is (Install id epoch) a) t.world a epoch id x (λ v may e.
      let l = lives V key t parts own agrees tok id x at in
      makes_effect (Install id epoch) id x l.0 l.1 (installs x v) t.world.paces a (owed x l.1 v may.agreed (rw l.0 may.inside) may.later) e) e) e) e

  lease_effect : (id : NodeId) (end : ℕ) (a : Accepted) → only_unmanaged t.world.managers (live t.world id (leases_at t.world id end)) ≡ accepts a → Is (Lease id end) a
  lease_effect id end a e = unmanaged_step (Is (Lease id end) a) t.world a (live t.world id (leases_at t.world id end)) (λ e.
      live_step (Is (Lease id end) a) t.world a id (leases_at t.world id end) (λ x at e.
      leases_step (Is (Lease id end) a) t.world a id end x (λ inside e.
      acts_effect (Lease id end) id (λ x. grants x end) a (λ x alive. calm_step x alive (grants x end).node refl) x at e) e) e) e

  -- a letter to a manager tells nothing of any key
  asks_lease_owed : (manager : ℕ) (x : NodeState) (alive : IsLive V key t parts own agrees tok x) → OwesLive V key t parts own agrees tok x alive (asks_lease x manager) (items_said key (AskLease x.id manager) (t.world.calls + 1) x (asks_lease x manager))
  asks_lease_owed manager x alive = by_there (ltb manager x.managers)
    where
      asking : Bool → Stepped
      asking b = cond b (record { node = x; letters = record { epoch = epoch_of x; from = Actor.Node x.id; to = Actor.Manager manager; body = LeaseAsk x.clock } ∷ []; told = []; installed = None }) (idle x)

      by_there : (b : Bool) → OwesLive V key t parts own agrees tok x alive (asking b) (items_said key (AskLease x.id manager) (t.world.calls + 1) x (asking b))
      by_there true = quiet_node V (project key t) parts key x (here V key t parts own agrees tok x alive) (asking true) [] refl refl refl
      by_there false = calm_step x alive x refl

  -- ---- the table
  pub event_effect_at : GivesOwed V key t parts own agrees tok → TakesOwed V key t parts own agrees tok → InstallsOwed V key t parts own agrees tok → (event : Event) (a : Accepted) → world_step t.world event ≡ accepts a → Is event a
  event_effect_at gives taken installed (Call id k op) a e = call_effect V key t parts own agrees tok id k op a e
  event_effect_at gives taken installed (Take n) a e = take_effect V key t parts own agrees tok gives taken installed n a e
  event_effect_at gives taken installed (Tick actor to) a e = tick_effect actor to a e
  event_effect_at gives taken installed (TickAll to) a e = tick_all_effect to a e
  event_effect_at gives taken installed (Crash actor) a e = crash_effect actor a e
  event_effect_at gives taken installed (Resend id k) a e = live_step (Is (Resend id k) a) t.world a id (λ node. acts t.world id node (resent node k))
      (acts_effect (Resend id k) id (λ x. resent x k) a (λ x alive. resend_owed V key t parts own agrees tok x alive k)) e
  event_effect_at gives taken installed (Replay id k) a e = live_step (Is (Replay id k) a) t.world a id (λ node. acts t.world id node (replayed node k))
      (acts_effect (Replay id k) id (λ x. replayed x k) a (λ x alive. replay_owed V key t parts own agrees tok x alive k)) e
  event_effect_at gives taken installed (Copy id from room) a e = live_step (Is (Copy id from room) a) t.world a id (λ node. acts t.world id node (asks_copy node from room))
      (acts_effect (Copy id from room) id (λ x. asks_copy x from room) a (λ x alive. asks_owed V key t parts own agrees tok x alive from room)) e
  event_effect_at gives taken installed (Start id) a e = start_effect id a e
  event_effect_at gives taken installed (Agree change) a e = agree_effect change a e
  event_effect_at gives taken installed (Install id epoch) a e = install_effect installed id epoch a e
  event_effect_at gives taken installed (Lease id end) a e = lease_effect id end a e
  event_effect_at gives taken installed (AskLease id manager) a e = live_step (Is (AskLease id manager) a) t.world a id (λ node. acts t.world id node (asks_lease node manager))
      (acts_effect (AskLease id manager) id (λ x. asks_lease x manager) a (λ x alive. asks_lease_owed manager x alive)) e
  event_effect_at gives taken installed (Propose manager base change) a e = manager_effect V key t parts own agrees tok (Propose manager base change) manager (ManagerEvent.Propose base change) a e
  event_effect_at gives taken installed (Activate manager) a e = manager_effect V key t parts own agrees tok (Activate manager) manager ManagerEvent.Activate a e

-- What remains to be shown of batches and views, at every moment.
pub record AreOwed : Type 0 where
  pub gives : (V : ℕ → List ℕ) (key : List ℕ) (t : Trace) (parts : Parts V (project key t)) (own : IsOwn t.world) (agrees : Agrees t.world V) (tok : IsTrace t) → GivesOwed V key t parts own agrees tok
  pub takes : (V : ℕ → List ℕ) (key : List ℕ) (t : Trace) (parts : Parts V (project key t)) (own : IsOwn t.world) (agrees : Agrees t.world V) (tok : IsTrace t) → TakesOwed V key t parts own agrees tok
  pub installs : (V : ℕ → List ℕ) (key : List ℕ) (t : Trace) (parts : Parts V (project key t)) (own : IsOwn t.world) (agrees : Agrees t.world V) (tok : IsTrace t) → InstallsOwed V key t parts own agrees tok

pub event_is_effects : AreOwed → EventIsEffects
event_is_effects owed V key t event a e is own agrees tok parts =
    event_effect_at V key t parts own agrees tok (owed.gives V key t parts own agrees tok) (owed.takes V key t parts own agrees tok) (owed.installs V key t parts own agrees tok) event a e
