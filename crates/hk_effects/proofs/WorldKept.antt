-- Each event keeps what the world says of its views, nodes and letters, and answers calls of so far.
use Rattle.std.proofs.Common.{◌≡◌, ◌≢◌, ◌⊎◌, ℕ, suc, Bool, true, false, cond, inl, inr, ◌+◌, List, [], ◌∷◌, ◌++◌, map, ◌≤◌, ◌∙◌, sym, refl, ap, subst, ⊎_elim, arith, le_refl, ltb, Some, None, Ok}
use Rattle.std.specs.List.Sorted.{IsStrictlySortedBy}
use Rattle.std.specs.Map.{keys_of}
use Rattle.hk_copy.specs.Batches.{key_cmp}
use Rattle.std.specs.List.{list_any}
use Rattle.std.proofs.lemmas.Bool.{false≢true, cases_eq, or_cases}
use Rattle.hk_base.specs.declared.stamp.NodeId.{NodeId}
use Rattle.hk_base.specs.declared.call.CallNo.{CallNo}
use Rattle.hk_base.specs.declared.call.Op.{Op}
use Rattle.hk_base.specs.declared.call.Reply.{Reply}
use Rattle.hk_base.specs.declared.view.View.{View}
use Rattle.hk_base.specs.declared.view.Change.{Change}
use Rattle.hk_base.specs.View.{IsView, member_numbers, is_member}
use Rattle.hk_base.specs.declared.letter.Letter.{Letter}
use Rattle.hk_base.specs.declared.letter.Body.TheVariants.{Activate}
use Rattle.hk_register.specs.Machine.{In}
use Rattle.hk_register.proofs.Grow.{in_either, in_left}
use Rattle.hk_clocks.specs.Clocks.{Paces}
use Rattle.hk_manager.specs.declared.event.ManagerEvent.{ManagerEvent}
use Rattle.hk_manager.specs.declared.event.ManagerEvent.TheVariants as ManagerEvent
use Rattle.hk_manager.specs.Steps.{manager_step}
use Rattle.hk_node.specs.Node.{NodeState}
use Rattle.hk_node.specs.Stepped.{Stepped}
use Rattle.hk_node.specs.Calls.{called}
use Rattle.hk_node.specs.Copies.{asks_copy}
use Rattle.hk_node.specs.Steps.{receives, resent, replayed, asks_lease, installs, ticks, grants}
use Rattle.hk_event.specs.declared.event.Event.{Event}
use Rattle.hk_event.specs.declared.event.Event.TheVariants as Event
use Rattle.hk_world.specs.declared.process.Process.{Process}
use Rattle.hk_world.specs.declared.process.ManagerProcess.{ManagerProcess}
use Rattle.hk_world.specs.declared.shown.Shown.{Shown}
use Rattle.hk_world.specs.World.{WorldState, Processes, process_at, put_process, manager_at, node_of, numbered, last_view}
use Rattle.hk_world.specs.Steps.{Accepted, with_step, acts, aside, nothing, live, live_manager, manager_acts, with_manager_step, manager_shown, learned, may_join, calls_at, ticks_at, manager_ticks_at, process_ticked, crashes_at, manager_crashes_at, joining, agreed_on, agrees, installs_at, leases_at, world_step}
use Rattle.hk_world.specs.Sound.{IsWorld, IsEvent}
use Rattle.hk_effects.specs.Own.{IsDropped, IsAdded, IsChain, IsNodeOf, IsTold, IsLed, IsOwn}
use Rattle.hk_effects.proofs.Processes.{numbered_node, in_members, process-put_same, process-put_other, process_of_node}
use Rattle.hk_effects.proofs.Chain.{more_views}
use Rattle.hk_effects.proofs.RowsKept.{first_of}
use Rattle.hk_effects.proofs.LettersKept.{said_told, said_begins_none}
use Rattle.hk_effects.proofs.Managers.{manager_says, managers_told, managers_begin}
use Rattle.hk_effects.proofs.NodesKept.{AreAnswered, IsSteppedOf, node_more, called_fine, resent_fine, replayed_fine, asks_fine, asks_lease_fine, receives_fine, ticks_fine, grants_fine, installs_fine}
use Rattle.hk_effects.proofs.Accepting.{alive, managing, makes, with_processes, with_managers, may_follow, live_manager_step, makes_manager_step, proposes_none, activates_none, unmanaged_step, live_step, any_actor_step, live_actor_step, any_takes_step, takes_step, ticks_step, any_tick_step, all_tick_step, manager_ticks_step, manager_crashes_step, crashes_step, any_starts_step, changes_step, installs_step, leases_step}
use Rattle.hk_effects.proofs.Frames.{accepted}
use Rattle.hk_effects.proofs.Rests.{numbered_in}
use Rattle.hk_effects.proofs.Worlds.{all_in, the_some, the_accepted, ordered_rows, ticked_from}

-- how many calls there are after an event
abbrev pub calls_after : Event → ℕ → ℕ
calls_after (Event.Call id key op) calls = calls + 1
calls_after event calls = calls

-- what an event keeps
pub record IsNextOf (w : WorldState) (event : Event) (next : WorldState) (told : List (List ℕ × Reply)) : Type 0 where
  pub process : (id : NodeId) (p : Process) → process_at id next.processes ≡ Some p → IsNodeOf next.views next.calls p.node
  pub letter : (l : Letter) → In next.letters l → IsTold l.body
  pub begun : (l : Letter) (v : View) → In next.letters l → l.body ≡ Activate v → In next.views v
  pub answered : AreAnswered next.calls told
  pub calls : next.calls ≡ calls_after event w.calls
  pub more : w.calls ≤ next.calls
  pub grows : (v : View) → In w.views v → In next.views v

-- a manager whose held view has the node
any_held : (id : NodeId) (ms : List ManagerProcess) → list_any (λ p. is_member id p.manager.held.members) ms ≡ true →
    (m : ℕ) × (p : ManagerProcess) × (manager_at m ms ≡ Some p) × (is_member id p.manager.held.members ≡ true)
any_held id [] e = absurd (false≢true e)
any_held id (p ∷ ms) e = ⊎_elim
    (λ (here : is_member id p.manager.held.members ≡ true). (0, p, refl, here))
    (λ (there : list_any (λ q. is_member id q.manager.held.members) ms ≡ true). let f = any_held id ms there in (suc f.0, f.1, f.2, f.3))
    (or_cases (is_member id p.manager.held.members) (list_any (λ q. is_member id q.manager.held.members) ms) e)

module _ (w : WorldState) (own : IsOwn w) where
  abbrev Next : Event → Accepted → Type 0
  Next event a = IsNextOf w event a.world a.told

  process_own : (id : NodeId) (p : Process) → process_at id w.processes ≡ Some p → IsNodeOf w.views w.calls p.node
  process_own id p at = own.node id.0 p.node (ap node_of at)

  -- ---- a live node's step
  put_kept : (calls : ℕ) → w.calls ≤ calls → (id : NodeId) (p : Process) → IsNodeOf w.views calls p.node → (q : NodeId) (r : Process) → process_at q (put_process id p w.processes) ≡ Some r → IsNodeOf w.views calls r.node
  put_kept calls up id p good q r at = ⊎_elim
      (λ (e : q.0 ≡ id.0).
      let same : q ≡ id = ap numbered_node e in
      let there : process_at id (put_process id p w.processes) ≡ Some r = subst (λ (i : NodeId). process_at i (put_process id p w.processes) ≡ Some r) same at in
      subst (λ (z : Process). IsNodeOf w.views calls z.node) (the_some p r (sym (process-put_same id p w.processes) ∙ there)) good)
      (λ (ne : q.0 ≢ id.0). node_more w.views w.calls calls r.node up (process_own q r (sym (process-put_other q id p w.processes (λ e. ne (ap (λ (n : NodeId). n.0) e))) ∙ at)))
      (cases_eq q.0 id.0)

  step_kept : (event : Event) (id : NodeId) (s : Stepped) (paces : Paces) → w.calls ≤ calls_after event w.calls → IsSteppedOf w.views (calls_after event w.calls) s →
      IsNextOf w event (record (with_step w id s) { calls = calls_after event w.calls; paces = paces }) s.told
  step_kept event id s paces up good = record {
    process = put_kept (calls_after event w.calls) up id (alive s.node) good.node;
    letter = λ l h. ⊎_elim (own.letter l) (λ (new : In s.letters l). said_told l.body (good.letters l new)) (in_either w.letters s.letters l h);
    begun = λ l v h is. ⊎_elim (λ (old : In w.letters l). own.begun l v old is) (λ (new : In s.letters l). absurd (said_begins_none l.body v (good.letters l new) is)) (in_either w.letters s.letters l h);
    answered = good.told;
    calls = refl;
    more = up;
    grows = λ v h. h;
  }

  makes_kept : (event : Event) (id : NodeId) (x : NodeState) (s : Stepped) (paces : Paces) → calls_after event w.calls ≡ w.calls → IsSteppedOf w.views w.calls s → (a : Accepted) → makes w id x s paces ≡ Ok a → Next event a
  makes_kept event id x s paces quiet good a e =
      let b : Accepted = accepted w id x s w.calls paces None in
      let kept : IsNextOf w event b.world s.told =
      subst (λ (n : ℕ). IsNextOf w event (record (with_step w id s) { calls = n; paces = paces }) s.told) quiet
      (step_kept event id s paces (subst (λ (n : ℕ). w.calls ≤ n) (sym quiet) (le_refl w.calls)) (subst (λ (n : ℕ). IsSteppedOf w.views n s) (sym quiet) good)) in
      subst (Next event) (the_accepted b a (makes w id x s paces) refl e) kept

  fine : (id : NodeId) (x : NodeState) → process_at id w.processes ≡ Some (alive x) → (calls : ℕ) → w.calls ≤ calls → IsNodeOf w.views calls x
  fine id x at calls up = node_more w.views w.calls calls x up (process_own id (alive x) at)

  call_kept : (id : NodeId) (key : List ℕ) (op : Op) (x : NodeState) → process_at id w.processes ≡ Some (alive x) → (a : Accepted) → calls_at w id key op x ≡ Ok a → Next (Event.Call id key op) a
  call_kept id key op x at a e =
      let call : CallNo = record { 0 = w.calls + 1 } in
      let s : Stepped = called x call key op in
      let b : Accepted = accepted w id x s (w.calls + 1) w.paces (Some call) in
      subst (Next (Event.Call id key op)) (the_accepted b a (calls_at w id key op x) refl e)
      (step_kept (Event.Call id key op) id s w.paces (omega arith) (called_fine w.views (w.calls + 1) x (fine id x at (w.calls + 1) (omega arith)) (ordered_rows w own.sound id x at) call key op (le_refl (w.calls + 1))))

  -- a step that makes no call
  ticked_kept : (event : Event) → calls_after event w.calls ≡ w.calls → (step : NodeState → Stepped) →
      ((x : NodeState) → IsNodeOf w.views w.calls x → IsStrictlySortedBy key_cmp (keys_of x.rows) → IsSteppedOf w.views w.calls (step x)) →
      (id : NodeId) (x : NodeState) → process_at id w.processes ≡ Some (alive x) → (paces : Paces) (a : Accepted) → makes w id x (step x) paces ≡ Ok a → Next event a
  ticked_kept event quiet step good id x at paces a e = makes_kept event id x (step x) paces quiet (good x (fine id x at w.calls (le_refl w.calls)) (ordered_rows w own.sound id x at)) a e

  -- and leaves the clocks
  quiet_kept : (event : Event) → calls_after event w.calls ≡ w.calls → (step : NodeState → Stepped) →
      ((x : NodeState) → IsNodeOf w.views w.calls x → IsStrictlySortedBy key_cmp (keys_of x.rows) → IsSteppedOf w.views w.calls (step x)) →
      (id : NodeId) (x : NodeState) → process_at id w.processes ≡ Some (alive x) → (a : Accepted) → acts w id x (step x) ≡ Ok a → Next event a
  quiet_kept event quiet step good id x at a e = ticked_kept event quiet step good id x at w.paces a e

  -- ---- beside the nodes
  aside_kept : (event : Event) (next : WorldState) (shown : Shown) → IsNextOf w event next [] → (a : Accepted) → aside next shown ≡ Ok a → Next event a
  aside_kept event next shown kept a e = subst (Next event) (the_accepted (record { world = next; told = []; shown = shown }) a (aside next shown) refl e) kept

  ticked_fine : (to : ℕ) (id : NodeId) (q : Process) → process_at id (map (process_ticked to) w.processes) ≡ Some q → IsNodeOf w.views w.calls q.node
  ticked_fine to id q at =
      let f = ticked_from to id w.processes q at in
      let good = process_own id f.0 f.1 in
      ⊎_elim
      (λ (s : q ≡ f.0). subst (λ (z : Process). IsNodeOf w.views w.calls z.node) (sym s) good)
      (λ (s : q ≡ record f.0 { node = (ticks f.0.node to).node }). subst (λ (z : Process). IsNodeOf w.views w.calls z.node) (sym s) (record { small = good.small; agreed = good.agreed; row = good.row })) f.2

  -- processes, managers and clocks alone change
  processes_kept : (event : Event) → calls_after event w.calls ≡ w.calls → (ps : Processes) → ((id : NodeId) (p : Process) → process_at id ps ≡ Some p → IsNodeOf w.views w.calls p.node) →
      (managers : List ManagerProcess) (paces : Paces) (a : Accepted) → aside (with_managers (with_processes w ps paces) managers) nothing ≡ Ok a → Next event a
  processes_kept event quiet ps good managers paces a e = aside_kept event (with_managers (with_processes w ps paces) managers) nothing
      (record { process = good; letter = own.letter; begun = own.begun; answered = λ t h. absurd h; calls = sym quiet; more = le_refl w.calls; grows = λ v h. h }) a e

  -- a joiner is a member of one of the views, whose numbers are small
  joiner_fine : (id : NodeId) (v : View) → In w.views v → In (member_numbers v.members) id.0 → IsNodeOf w.views w.calls (joining w id).node
  joiner_fine id v among inside =
      let low = own.views.below v among id.0 inside in
      let top = (all_in IsView w.views (last_view w.views) own.sound.each own.views.last).next in
      record { small = omega (arith, low, top); agreed = λ v none. cc; row = λ key. first_of w.calls }

  -- the last view has it as a member, or one that a manager holds
  may_join_fine : (id : NodeId) → may_join w id ≡ true → IsNodeOf w.views w.calls (joining w id).node
  may_join_fine id may = ⊎_elim
      (λ (last : is_member id (last_view w.views).members ≡ true). joiner_fine id (last_view w.views) own.views.last (in_members id (last_view w.views).members last))
      (λ (held : list_any (λ p. is_member id p.manager.held.members) w.managers ≡ true).
      let f = any_held id w.managers held in joiner_fine id f.1.manager.held (own.held f.0 f.1 f.2) (in_members id f.1.manager.held.members f.3))
      (or_cases (is_member id (last_view w.views).members) (list_any (λ p. is_member id p.manager.held.members) w.managers) may)

  agreed_kept : (change : Change) (v : View) (a : Accepted) → agreed_on w v ≡ Ok a → Next (Event.Agree change) a
  agreed_kept change v a e = aside_kept (Event.Agree change) (record w { views = w.views ++ v ∷ [] }) (record nothing { view = Some v }) (record {
    process = λ id p at. let x = process_own id p at in record { small = x.small; agreed = λ u e. in_left w.views (v ∷ []) u (x.agreed u e); row = x.row };
    letter = own.letter;
    begun = λ l u h is. in_left w.views (v ∷ []) u (own.begun l u h is);
    answered = λ t h. absurd h;
    calls = refl;
    more = le_refl w.calls;
    grows = λ u h. in_left w.views (v ∷ []) u h;
  }) a e

  -- a manager's step: what it holds may be learned
  learned_grows : (held v : View) → In w.views v → In (learned w.views held) v
  learned_grows held v h = by_later (ltb (last_view w.views).epoch held.epoch)
    where
      by_later : (b : Bool) → In (cond b (w.views ++ held ∷ []) w.views) v
      by_later true = in_left w.views (held ∷ []) v h
      by_later false = h

  manager_kept : (event : Event) → calls_after event w.calls ≡ w.calls → (m : ℕ) (step : ManagerEvent) (a : Accepted) → live_manager w m (λ x. manager_acts w m (manager_step x step)) ≡ Ok a → Next event a
  manager_kept event quiet m step a e = live_manager_step (Next event a) w a m (λ x. manager_acts w m (manager_step x step)) (λ x at e.
      makes_manager_step (Next event a) w a m (manager_step x step) (λ s is e.
      let says = manager_says x step s is in
      let grows = learned_grows s.manager.held in
      aside_kept event (with_manager_step w m s) (manager_shown w m s) (record {
        process = λ id p at. let y = process_own id p at in record { small = y.small; agreed = λ u e. grows u (y.agreed u e); row = y.row };
        letter = λ l h. ⊎_elim (own.letter l) (managers_told x.held s.letters says l) (in_either w.letters s.letters l h);
        begun = λ l v h begins. ⊎_elim (λ (old : In w.letters l). grows v (own.begun l v old begins))
            (λ (new : In s.letters l). grows v (subst (λ (u : View). In w.views u) (sym (managers_begin x.held s.letters says l v new begins)) (own.held m (managing x) at)))
            (in_either w.letters s.letters l h);
        answered = λ t h. absurd h;
        calls = sym quiet;
        more = le_refl w.calls;
        grows = grows;
      }) a e) e) e

  next_kept_at : (event : Event) (a : Accepted) → world_step w event ≡ Ok a → Next event a
  next_kept_at (Event.Call id key op) a e = live_step (Next (Event.Call id key op) a) w a id (calls_at w id key op) (λ x at e. call_kept id key op x at a e) e
  next_kept_at (Event.Take n) a e = any_takes_step (Next (Event.Take n) a) w a n
      (λ l found id x at e. makes_kept (Event.Take n) id x (receives x l) w.paces refl
      (receives_fine w.views w.calls x (fine id x at w.calls (le_refl w.calls)) (ordered_rows w own.sound id x at) l (own.letter l (numbered_in n w.letters l found)) (λ v is. own.begun l v (numbered_in n w.letters l found) is)) a e)
      (λ l found m e. manager_kept (Event.Take n) refl m (ManagerEvent.Receive l) a e) e
  next_kept_at (Event.Tick actor to) a e = any_actor_step (Next (Event.Tick actor to) a) w a actor (ticks_at w to) (manager_ticks_at w to)
      (λ id x at e. ticks_step (Next (Event.Tick actor to) a) w a to id x (λ paces e. ticked_kept (Event.Tick actor to) refl (λ x. ticks x to) (λ x good ordered. ticks_fine w.views w.calls x good ordered to) id x at paces a e) e)
      (λ m e. live_manager_step (Next (Event.Tick actor to) a) w a m (manager_ticks_at w to m) (λ x at e.
      manager_ticks_step (Next (Event.Tick actor to) a) w a to m x (λ managers paces e. processes_kept (Event.Tick actor to) refl w.processes process_own managers paces a e) e) e) e
  next_kept_at (Event.TickAll to) a e = any_tick_step (Next (Event.TickAll to) a) w a to (λ managers paces e. processes_kept (Event.TickAll to) refl (map (process_ticked to) w.processes) (ticked_fine to) managers paces a e) e
  next_kept_at (Event.Crash actor) a e = any_actor_step (Next (Event.Crash actor) a) w a actor (crashes_at w) (manager_crashes_at w)
      (λ id x at e. crashes_step (Next (Event.Crash actor) a) w a id x
      (λ paces e. processes_kept (Event.Crash actor) refl (put_process id (record { node = x; crashed = true }) w.processes) (put_kept w.calls (le_refl w.calls) id (record { node = x; crashed = true }) (process_own id (alive x) at)) w.managers paces a e) e)
      (λ m e. live_manager_step (Next (Event.Crash actor) a) w a m (manager_crashes_at w m) (λ x at e.
      manager_crashes_step (Next (Event.Crash actor) a) w a m x (λ managers paces e. processes_kept (Event.Crash actor) refl w.processes process_own managers paces a e) e) e) e
  next_kept_at (Event.Resend id key) a e = live_step (Next (Event.Resend id key) a) w a id (λ node. acts w id node (resent node key))
      (λ x at e. quiet_kept (Event.Resend id key) refl (λ x. resent x key) (λ x good ordered. resent_fine w.views w.calls x good ordered key) id x at a e) e
  next_kept_at (Event.Replay id key) a e = live_step (Next (Event.Replay id key) a) w a id (λ node. acts w id node (replayed node key))
      (λ x at e. quiet_kept (Event.Replay id key) refl (λ x. replayed x key) (λ x good ordered. replayed_fine w.views w.calls x good ordered key) id x at a e) e
  next_kept_at (Event.Copy id from room) a e = live_step (Next (Event.Copy id from room) a) w a id (λ node. acts w id node (asks_copy node from room))
      (λ x at e. quiet_kept (Event.Copy id from room) refl (λ x. asks_copy x from room) (λ x good ordered. asks_fine w.views w.calls x good ordered from room) id x at a e) e
  next_kept_at (Event.Start id) a e = any_starts_step (Next (Event.Start id) a) w a id
      (λ none may paces e. processes_kept (Event.Start id) refl (put_process id (joining w id) w.processes) (put_kept w.calls (le_refl w.calls) id (joining w id) (may_join_fine id may)) w.managers paces a e) e
  next_kept_at (Event.Agree change) a e = unmanaged_step (Next (Event.Agree change) a) w a (agrees w (last_view w.views) change)
      (λ e. changes_step (Next (Event.Agree change) a) w a change (λ v how e. agreed_kept change v a e) e) e
  next_kept_at (Event.Install id epoch) a e = unmanaged_step (Next (Event.Install id epoch) a) w a (live w id (λ node. installs_at (numbered epoch w.views) w id node))
      (λ e. live_step (Next (Event.Install id epoch) a) w a id (λ node. installs_at (numbered epoch w.views) w id node)
      (λ x at e. installs_step (Next (Event.Install id epoch) a) w a epoch id x
      (λ v may e. quiet_kept (Event.Install id epoch) refl (λ x. installs x v) (λ x good ordered. installs_fine w.views w.calls x good ordered v may.agreed) id x at a e) e) e) e
  next_kept_at (Event.Lease id end) a e = unmanaged_step (Next (Event.Lease id end) a) w a (live w id (leases_at w id end))
      (λ e. live_step (Next (Event.Lease id end) a) w a id (leases_at w id end)
      (λ x at e. leases_step (Next (Event.Lease id end) a) w a id end x (λ inside e. quiet_kept (Event.Lease id end) refl (λ x. grants x end) (λ x good ordered. grants_fine w.views w.calls x good ordered end) id x at a e) e) e) e
  next_kept_at (Event.AskLease id manager) a e = live_step (Next (Event.AskLease id manager) a) w a id (λ node. acts w id node (asks_lease node manager))
      (λ x at e. quiet_kept (Event.AskLease id manager) refl (λ x. asks_lease x manager) (λ x good ordered. asks_lease_fine w.views w.calls x good ordered manager) id x at a e) e
  next_kept_at (Event.Propose manager base change) a e = manager_kept (Event.Propose manager base change) refl manager (ManagerEvent.Propose base change) a e
  next_kept_at (Event.Activate manager) a e = manager_kept (Event.Activate manager) refl manager ManagerEvent.Activate a e

pub next_kept : (w : WorldState) (event : Event) (a : Accepted) → world_step w event ≡ Ok a → IsOwn w → IsNextOf w event a.world a.told
next_kept w event a is own = next_kept_at w own event a is

-- that what every world keeps is kept, as `step_keeps_sound` of hk_world has it
abbrev pub KeepsSound : Type 0
KeepsSound = (w : WorldState) (event : Event) (a : Accepted) → IsWorld w → IsEvent event → world_step w event ≡ Ok a → IsWorld a.world

-- where the views are led on, the world's own invariant is kept
pub own_kept : KeepsSound → (w : WorldState) (event : Event) (a : Accepted) → world_step w event ≡ Ok a → IsEvent event → IsLed a.world → IsOwn w → IsOwn a.world
own_kept keeps w event a is event_ok led own =
    let next = next_kept w event a is own in
    record {
      sound = keeps w event a own.sound event_ok is;
      views = led.views;
      epochs = led.epochs;
      node = λ id x at. let p = process_of_node id x a.world.processes at in subst (λ (z : NodeState). IsNodeOf a.world.views a.world.calls z) p.2 (next.process (numbered_node id) p.0 p.1);
      letter = next.letter;
      begun = next.begun;
      held = led.held;
    }

-- ---- without managers
-- no manager comes, and views are agreed from outside
pub record StaysAlone (w : WorldState) (a : Accepted) : Type 0 where
  pub managers : a.world.managers ≡ w.managers
  pub views : (a.world.views ≡ w.views) ⊎ (v : View) × (IsDropped (last_view w.views) v ⊎ IsAdded (last_view w.views) v) × (a.world.views ≡ w.views ++ v ∷ [])

pub stays_alone : (w : WorldState) (event : Event) (a : Accepted) → world_step w event ≡ Ok a → w.managers ≡ [] → StaysAlone w a
stays_alone w event a e none = by_event event e
  where
    by_world : (b : Accepted) → b.world.managers ≡ w.managers → b.world.views ≡ w.views → a ≡ b → StaysAlone w a
    by_world b managers views is = record { managers = ap (λ (c : Accepted). c.world.managers) is ∙ managers; views = inl (ap (λ (c : Accepted). c.world.views) is ∙ views) }

    by_made : (id : NodeId) (x : NodeState) (s : Stepped) (paces : Paces) → makes w id x s paces ≡ Ok a → StaysAlone w a
    by_made id x s paces e = by_world (accepted w id x s w.calls paces None) refl refl (the_accepted a (accepted w id x s w.calls paces None) (Ok a) refl (sym e))

    by_aside : (ps : Processes) (paces : Paces) → aside (with_processes w ps paces) nothing ≡ Ok a → StaysAlone w a
    by_aside ps paces e = by_world (record { world = with_processes w ps paces; told = []; shown = nothing }) refl refl (the_accepted a (record { world = with_processes w ps paces; told = []; shown = nothing }) (Ok a) refl (sym e))

    by_view : (v : View) → IsDropped (last_view w.views) v ⊎ IsAdded (last_view w.views) v → agreed_on w v ≡ Ok a → StaysAlone w a
    by_view v how e =
        let b : Accepted = record { world = record w { views = w.views ++ v ∷ [] }; told = []; shown = record nothing { view = Some v } } in
        let is : a ≡ b = the_accepted a b (Ok a) refl (sym e) in
        record { managers = ap (λ (c : Accepted). c.world.managers) is; views = inr (v, how, ap (λ (c : Accepted). c.world.views) is) }

    by_event : (event : Event) → world_step w event ≡ Ok a → StaysAlone w a
    by_event (Event.Call id key op) e = live_step (StaysAlone w a) w a id (calls_at w id key op)
        (λ x at e.
        let b : Accepted = accepted w id x (called x (record { 0 = w.calls + 1 }) key op) (w.calls + 1) w.paces (Some (record { 0 = w.calls + 1 })) in
        by_world b refl refl (the_accepted a b (Ok a) refl (sym e))) e
    by_event (Event.Take n) e = takes_step (StaysAlone w a) w a none n (λ l found id x at e. by_made id x (receives x l) w.paces e) e
    by_event (Event.Tick actor to) e = live_actor_step (StaysAlone w a) w a none actor (ticks_at w to) (manager_ticks_at w to)
        (λ id x at e. ticks_step (StaysAlone w a) w a to id x (λ paces e. by_made id x (ticks x to) paces e) e) e
    by_event (Event.TickAll to) e = all_tick_step (StaysAlone w a) w a none to (λ paces e. by_aside (map (process_ticked to) w.processes) paces e) e
    by_event (Event.Crash actor) e = live_actor_step (StaysAlone w a) w a none actor (crashes_at w) (manager_crashes_at w)
        (λ id x at e. crashes_step (StaysAlone w a) w a id x (λ paces e. by_aside (put_process id (record { node = x; crashed = true }) w.processes) paces e) e) e
    by_event (Event.Resend id key) e = live_step (StaysAlone w a) w a id (λ node. acts w id node (resent node key)) (λ x at e. by_made id x (resent x key) w.paces e) e
    by_event (Event.Replay id key) e = live_step (StaysAlone w a) w a id (λ node. acts w id node (replayed node key)) (λ x at e. by_made id x (replayed x key) w.paces e) e
    by_event (Event.Copy id from room) e = live_step (StaysAlone w a) w a id (λ node. acts w id node (asks_copy node from room)) (λ x at e. by_made id x (asks_copy x from room) w.paces e) e
    by_event (Event.Start id) e = any_starts_step (StaysAlone w a) w a id (λ at may paces e. by_aside (put_process id (joining w id) w.processes) paces e) e
    by_event (Event.Agree change) e = unmanaged_step (StaysAlone w a) w a (agrees w (last_view w.views) change)
        (λ e. changes_step (StaysAlone w a) w a change by_view e) e
    by_event (Event.Install id epoch) e = unmanaged_step (StaysAlone w a) w a (live w id (λ node. installs_at (numbered epoch w.views) w id node))
        (λ e. live_step (StaysAlone w a) w a id (λ node. installs_at (numbered epoch w.views) w id node)
        (λ x at e. installs_step (StaysAlone w a) w a epoch id x (λ v may e. by_made id x (installs x v) w.paces e) e) e) e
    by_event (Event.Lease id end) e = unmanaged_step (StaysAlone w a) w a (live w id (leases_at w id end))
        (λ e. live_step (StaysAlone w a) w a id (leases_at w id end) (λ x at e. leases_step (StaysAlone w a) w a id end x (λ inside e. by_made id x (grants x end) w.paces e) e) e) e
    by_event (Event.AskLease id manager) e = live_step (StaysAlone w a) w a id (λ node. acts w id node (asks_lease node manager)) (λ x at e. by_made id x (asks_lease x manager) w.paces e) e
    by_event (Event.Propose manager base change) e = proposes_none (StaysAlone w a) w a none manager base change e
    by_event (Event.Activate manager) e = activates_none (StaysAlone w a) w a none manager e

-- so what an agreement of managers would give is there
pub led_alone : KeepsSound → (w : WorldState) (event : Event) (a : Accepted) → world_step w event ≡ Ok a → IsEvent event → w.managers ≡ [] → IsOwn w → IsLed a.world
led_alone keeps w event a is event_ok none own =
    let alone = stays_alone w event a is none in
    let still : a.world.managers ≡ [] = alone.managers ∙ none in
    record {
      views = by_views alone.views;
      epochs = ((keeps w event a own.sound event_ok is).views still).epochs;
      held = λ m p at. absurd (nobody m p (subst (λ (ms : List ManagerProcess). manager_at m ms ≡ Some p) still at));
    }
  where
    nobody : (m : ℕ) (p : ManagerProcess) → manager_at m [] ≡ Some p → ⊥
    nobody m p at = cc

    by_views : (a.world.views ≡ w.views) ⊎ (v : View) × (IsDropped (last_view w.views) v ⊎ IsAdded (last_view w.views) v) × (a.world.views ≡ w.views ++ v ∷ []) → IsChain a.world.views
    by_views (inl same) = subst IsChain (sym same) own.views
    by_views (inr n) = subst IsChain (sym n.2) (more_views w.views n.0 own.views (may_follow w.views own.views n.0 n.1))
