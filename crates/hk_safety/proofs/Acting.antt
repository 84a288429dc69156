-- The node that acts in an accepted event, and what its step tells.
use Rattle.std.proofs.Common.{◌≡◌, ◌≢◌, ◌⊎◌, ℕ, ◌+◌, ◌<◌, ◌≤◌, List, [], ◌∷◌, ◌++◌, map, Bool, true, false, cond, Option, Some, None, Result, Ok, refl, sym, ap, subst, ◌∙◌, inl, inr, ⊎_elim, arith, IfSome, Less}
use Rattle.std.specs.Prelude.{⊤}
use Rattle.std.specs.Option.{IsSomeAnd, option_map}
use Rattle.std.specs.List.{AllByRecursion}
use Rattle.std.specs.List.Sorted.{IsStrictlySortedBy}
use Rattle.std.specs.Map.{keys_of}
use Rattle.std.proofs.lemmas.List.{append-nil}
use Rattle.std.proofs.lemmas.Map.Keys.{sorted_head, sorted_tail}
use Rattle.hk_base.specs.declared.stamp.NodeId.{NodeId}
use Rattle.hk_base.specs.declared.call.CallNo.{CallNo}
use Rattle.hk_base.specs.declared.call.Op.{Op}
use Rattle.hk_base.specs.declared.call.Reply.{Reply}
use Rattle.hk_base.specs.declared.letter.Letter.{Letter}
use Rattle.hk_base.specs.declared.view.View.{View}
use Rattle.hk_base.specs.Range.{IsLetter}
use Rattle.hk_base.specs.View.{IsView}
use Rattle.hk_base.specs.Stamp.{tag_of}
use Rattle.hk_copy.specs.Batches.{key_cmp}
use Rattle.hk_key.specs.declared.row.Pending.{Pending}
use Rattle.hk_key.specs.declared.row.Row.{Row}
use Rattle.hk_node.specs.declared.event.NodeEvent.{NodeEvent}
use Rattle.hk_node.specs.declared.event.NodeEvent.TheVariants as NodeEvent
use Rattle.hk_clocks.specs.Clocks.{Paces}
use Rattle.hk_manager.specs.declared.event.ManagerEvent.TheVariants as ManagerEvent
use Rattle.hk_manager.specs.declared.fault.ManagerFault.{ManagerFault}
use Rattle.hk_manager.specs.Manager.{ManagerState}
use Rattle.hk_manager.specs.Steps.{ManagerStepped, manager_step}
use Rattle.hk_node.specs.Node.{NodeState}
use Rattle.hk_node.specs.Rows.{row_at}
use Rattle.hk_node.specs.Sound.{IsNode, IsNodeEvent}
use Rattle.hk_node.specs.Report.{AreChanged, changed_rows}
use Rattle.hk_node.specs.Stepped.{Stepped}
use Rattle.hk_node.specs.Calls.{called}
use Rattle.hk_node.specs.Steps.{node_step, receives, installs}
use Rattle.hk_node.specs.Laws.{IsAnsweredAlone, HasBegun}
use Rattle.hk_node.proofs.Stamps.{begin_raises}
use Rattle.hk_node.proofs.Waits.{calls_are_taken}
use Rattle.hk_node.proofs.Exact.{reports_are_exact}
use Rattle.hk_node.proofs.InOrder.{told_in_order}
use Rattle.hk_event.specs.declared.event.Event.{Event}
use Rattle.hk_event.specs.declared.event.Event.TheVariants.{Call, Take, Tick, TickAll, Crash, Resend, Replay, Copy, Start, Agree, Install, Lease, AskLease, Propose, Activate}
use Rattle.hk_world.specs.declared.shown.Shown.{Shown}
use Rattle.hk_world.specs.World.{WorldState, process_at, put_process, numbered, last_view}
use Rattle.hk_world.specs.Steps.{Accepted, acting_of, world_step, aside, nothing, live, live_manager, manager_acts, with_manager_step, manager_shown, acts, calls_at, process_ticked, joining, agrees, ticks_at, manager_ticks_at, crashes_at, manager_crashes_at, installs_at, leases_at}
use Rattle.hk_world.specs.Sound.{IsEvent}
use Rattle.hk_world.proofs.Viewed.{numbered_holds}
use Rattle.hk_effects.specs.Projection.{is_behind, told_at, node_at}
use Rattle.hk_effects.specs.Own.{IsOwn, IsPendingOf}
use Rattle.hk_effects.proofs.Accepting.{alive, makes, with_processes, with_managers, live_manager_step, makes_manager_step, unmanaged_step, live_step, any_actor_step, any_takes_step, ticks_step, any_tick_step, manager_ticks_step, manager_crashes_step, crashes_step, any_starts_step, changes_step, installs_step, leases_step}
use Rattle.hk_effects.proofs.Frames.{accepted}
use Rattle.hk_effects.proofs.Order.{same_of, same_not, test_of_below, cases_key}
use Rattle.hk_effects.proofs.Rising.{RisesBehind, not_down, bound_differs, not_behind_itself}
use Rattle.hk_effects.proofs.WorldKept.{calls_after}
use Rattle.hk_effects.proofs.Worlds.{the_accepted}

-- ---- who acts
-- the number of the call that the event makes, if it makes one
abbrev pub next_call : WorldState → CallNo
next_call w = record { 0 = w.calls + 1 }

abbrev pub call_in : CallNo → Event → Option CallNo
call_in next (Call id key op) = Some next
call_in next event = None

-- what the event is to the node that it lets act
abbrev pub node_event : WorldState → Event → Option NodeEvent
node_event w (Call id key op) = Some (NodeEvent.Call (next_call w) key op)
node_event w (Take number) = option_map NodeEvent.Receive (numbered number w.letters)
node_event w (Tick actor to) = Some (NodeEvent.Tick to)
node_event w (Resend id key) = Some (NodeEvent.Resend key)
node_event w (Replay id key) = Some (NodeEvent.Replay key)
node_event w (Copy id from room) = Some (NodeEvent.AskCopy from room)
node_event w (Install id epoch) = option_map NodeEvent.Install (numbered epoch w.views)
node_event w (Lease id end) = Some (NodeEvent.Grant end)
node_event w (AskLease id manager) = Some (NodeEvent.AskLease manager)
node_event w event = None

-- the node makes the step of that
abbrev pub IsStepOf : WorldState → NodeState → Stepped → Event → Type 0
IsStepOf w x o event = (e : NodeEvent) × (node_event w event ≡ Some e) × (o ≡ node_step x e)

-- a live node makes its step of the event
pub record IsStep (w : WorldState) (event : Event) (a : Accepted) (id : NodeId) : Type 0 where
  pub x : NodeState
  pub at : process_at id w.processes ≡ Some (alive x)
  pub o : Stepped
  pub how : IsStepOf w x o event
  pub paces : Paces
  pub is : a ≡ accepted w id x o (calls_after event w.calls) paces (call_in (next_call w) event)

-- an event that is no call
abbrev pub IsNoCall : Event → Type 0
IsNoCall (Call id key op) = ⊥
IsNoCall event = ⊤

-- no node acts, and nothing is told
pub record IsBeside (w : WorldState) (event : Event) (a : Accepted) : Type 0 where
  pub acting : acting_of a ≡ None
  pub told : a.told ≡ []
  pub replies : a.shown.replies ≡ []
  pub letters : a.world.letters ≡ w.letters ++ a.shown.letters
  pub calls : a.world.calls ≡ calls_after event w.calls
  pub no_call : IsNoCall event

-- the node that the event names, if it lets one act
abbrev pub is_at : Event → NodeId → Type 0
is_at (Call i key op) id = i ≡ id
is_at event id = ⊤

abbrev pub IsMadeBy : WorldState → Event → Accepted → Type 0
IsMadeBy w event a = ((id : NodeId) × IsStep w event a id × is_at event id) ⊎ IsBeside w event a

module _ (w : WorldState) (a : Accepted) where
  makes_made : (event : Event) (id : NodeId) → is_at event id → (x : NodeState) → process_at id w.processes ≡ Some (alive x) → (o : Stepped) (paces : Paces) →
      IsStepOf w x o event → calls_after event w.calls ≡ w.calls → call_in (next_call w) event ≡ None → makes w id x o paces ≡ Ok a → IsMadeBy w event a
  makes_made event id named x at o paces how quiet uncalled made =
      inl (
        id,
        record {
          x = x;
          at = at;
          o = o;
          how = how;
          paces = paces;
          is = the_accepted a (accepted w id x o w.calls paces None) (Ok a) refl (sym made)
              ∙ ap (λ (n : ℕ). accepted w id x o n paces None) (sym quiet)
              ∙ ap (λ (c : Option CallNo). accepted w id x o (calls_after event w.calls) paces c) (sym uncalled);
        },
        named,
      )

  step_made : (event : Event) (id : NodeId) → is_at event id → (x : NodeState) → process_at id w.processes ≡ Some (alive x) → (o : Stepped) →
      IsStepOf w x o event → calls_after event w.calls ≡ w.calls → call_in (next_call w) event ≡ None → acts w id x o ≡ Ok a → IsMadeBy w event a
  step_made event id named x at o how quiet uncalled made = makes_made event id named x at o w.paces how quiet uncalled made

  beside_made : (event : Event) (next : WorldState) (shown : Shown) → next.calls ≡ calls_after event w.calls → shown.acted ≡ None → shown.replies ≡ [] →
      next.letters ≡ w.letters ++ shown.letters → IsNoCall event → aside next shown ≡ Ok a → IsMadeBy w event a
  beside_made event next shown quiet unacted silent sent none made =
      let is : a ≡ record { world = next; told = []; shown = shown } =
      the_accepted a (record { world = next; told = []; shown = shown }) (Ok a) refl (sym made) in
      inr (record {
        acting = ap (λ (b : Accepted). acting_of b) is ∙ ap (option_map (λ r. r.node)) unacted;
        told = ap (λ (b : Accepted). b.told) is;
        replies = ap (λ (b : Accepted). b.shown.replies) is ∙ silent;
        letters = rw is sent;
        calls = ap (λ (b : Accepted). b.world.calls) is ∙ quiet;
        no_call = none;
      })

  -- nothing is sent
  unsent_made : (event : Event) (next : WorldState) (v : Option View) → next.calls ≡ calls_after event w.calls → next.letters ≡ w.letters → IsNoCall event →
      aside next (record nothing { view = v }) ≡ Ok a → IsMadeBy w event a
  unsent_made event next v quiet same none made = beside_made event next (record nothing { view = v }) quiet refl refl (same ∙ sym (append-nil w.letters)) none made

  -- a manager makes a step
  manager_made : (event : Event) → IsNoCall event → calls_after event w.calls ≡ w.calls → (m : ℕ) (step : ManagerState → Result ManagerStepped ManagerFault) →
      live_manager w m (λ x. manager_acts w m (step x)) ≡ Ok a → IsMadeBy w event a
  manager_made event none quiet m step e = live_manager_step (IsMadeBy w event a) w a m (λ x. manager_acts w m (step x)) (λ x at e.
      makes_manager_step (IsMadeBy w event a) w a m (step x) (λ s is made. beside_made event (with_manager_step w m s) (manager_shown w m s) (sym quiet) refl refl refl none made) e) e

  call_made : (id : NodeId) (key : List ℕ) (op : Op) (x : NodeState) → process_at id w.processes ≡ Some (alive x) → calls_at w id key op x ≡ Ok a →
      IsMadeBy w (Call id key op) a
  call_made id key op x at e =
      inl (
        id,
        record {
          x = x;
          at = at;
          o = called x (next_call w) key op;
          how = (NodeEvent.Call (next_call w) key op, refl, refl);
          paces = w.paces;
          is = the_accepted a (accepted w id x (called x (next_call w) key op) (w.calls + 1) w.paces (Some (next_call w))) (Ok a) refl (sym e);
        },
        refl,
      )

  pub is_made_by : (event : Event) → world_step w event ≡ Ok a → IsMadeBy w event a
  is_made_by (Call id key op) e = live_step (IsMadeBy w (Call id key op) a) w a id (calls_at w id key op) (λ x at made. call_made id key op x at made) e
  is_made_by (Take number) e = any_takes_step (IsMadeBy w (Take number) a) w a number
      (λ l found id x at made. step_made (Take number) id tt x at (receives x l) (NodeEvent.Receive l, ap (option_map NodeEvent.Receive) found, refl) refl refl made)
      (λ l found m e. manager_made (Take number) tt refl m (λ x. manager_step x (ManagerEvent.Receive l)) e) e
  is_made_by (Tick actor to) e = any_actor_step (IsMadeBy w (Tick actor to) a) w a actor (ticks_at w to) (manager_ticks_at w to)
      (λ id x at e. ticks_step (IsMadeBy w (Tick actor to) a) w a to id x
      (λ paces made. makes_made (Tick actor to) id tt x at (node_step x (NodeEvent.Tick to)) paces (NodeEvent.Tick to, refl, refl) refl refl made) e)
      (λ m e. live_manager_step (IsMadeBy w (Tick actor to) a) w a m (manager_ticks_at w to m)
      (λ x at e. manager_ticks_step (IsMadeBy w (Tick actor to) a) w a to m x
      (λ managers paces made. unsent_made (Tick actor to) (with_managers (with_processes w w.processes paces) managers) None refl refl tt made) e) e) e
  is_made_by (TickAll to) e = any_tick_step (IsMadeBy w (TickAll to) a) w a to
      (λ managers paces made. unsent_made (TickAll to) (with_managers (with_processes w (map (process_ticked to) w.processes) paces) managers) None refl refl tt made) e
  is_made_by (Crash actor) e = any_actor_step (IsMadeBy w (Crash actor) a) w a actor (crashes_at w) (manager_crashes_at w)
      (λ id x at e. crashes_step (IsMadeBy w (Crash actor) a) w a id x
      (λ paces made. unsent_made (Crash actor) (with_processes w (put_process id (record { node = x; crashed = true }) w.processes) paces) None refl refl tt made) e)
      (λ m e. live_manager_step (IsMadeBy w (Crash actor) a) w a m (manager_crashes_at w m)
      (λ x at e. manager_crashes_step (IsMadeBy w (Crash actor) a) w a m x
      (λ managers paces made. unsent_made (Crash actor) (with_managers (with_processes w w.processes paces) managers) None refl refl tt made) e) e) e
  is_made_by (Resend id key) e = live_step (IsMadeBy w (Resend id key) a) w a id (λ node. acts w id node (node_step node (NodeEvent.Resend key)))
      (λ x at made. step_made (Resend id key) id tt x at (node_step x (NodeEvent.Resend key)) (NodeEvent.Resend key, refl, refl) refl refl made) e
  is_made_by (Replay id key) e = live_step (IsMadeBy w (Replay id key) a) w a id (λ node. acts w id node (node_step node (NodeEvent.Replay key)))
      (λ x at made. step_made (Replay id key) id tt x at (node_step x (NodeEvent.Replay key)) (NodeEvent.Replay key, refl, refl) refl refl made) e
  is_made_by (Copy id from room) e = live_step (IsMadeBy w (Copy id from room) a) w a id (λ node. acts w id node (node_step node (NodeEvent.AskCopy from room)))
      (λ x at made. step_made (Copy id from room) id tt x at (node_step x (NodeEvent.AskCopy from room)) (NodeEvent.AskCopy from room, refl, refl) refl refl made) e
  is_made_by (Start id) e = any_starts_step (IsMadeBy w (Start id) a) w a id
      (λ none may paces made. unsent_made (Start id) (with_processes w (put_process id (joining w id) w.processes) paces) None refl refl tt made) e
  is_made_by (Agree change) e = unmanaged_step (IsMadeBy w (Agree change) a) w a (agrees w (last_view w.views) change)
      (λ e. changes_step (IsMadeBy w (Agree change) a) w a change (λ v how made. unsent_made (Agree change) (record w { views = w.views ++ v ∷ [] }) (Some v) refl refl tt made) e) e
  is_made_by (Install id epoch) e = unmanaged_step (IsMadeBy w (Install id epoch) a) w a (live w id (λ node. installs_at (numbered epoch w.views) w id node))
      (λ e. live_step (IsMadeBy w (Install id epoch) a) w a id (λ node. installs_at (numbered epoch w.views) w id node)
      (λ x at e. installs_step (IsMadeBy w (Install id epoch) a) w a epoch id x
      (λ v may made. step_made (Install id epoch) id tt x at (installs x v) (NodeEvent.Install v, ap (option_map NodeEvent.Install) may.found, refl) refl refl made) e) e) e
  is_made_by (Lease id end) e = unmanaged_step (IsMadeBy w (Lease id end) a) w a (live w id (leases_at w id end))
      (λ e. live_step (IsMadeBy w (Lease id end) a) w a id (leases_at w id end)
      (λ x at made. leases_step (IsMadeBy w (Lease id end) a) w a id end x
      (λ inside e. step_made (Lease id end) id tt x at (node_step x (NodeEvent.Grant end)) (NodeEvent.Grant end, refl, refl) refl refl e) made) e) e
  is_made_by (AskLease id manager) e = live_step (IsMadeBy w (AskLease id manager) a) w a id (λ node. acts w id node (node_step node (NodeEvent.AskLease manager)))
      (λ x at made. step_made (AskLease id manager) id tt x at (node_step x (NodeEvent.AskLease manager)) (NodeEvent.AskLease manager, refl, refl) refl refl made) e
  is_made_by (Propose manager base change) e = manager_made (Propose manager base change) tt refl manager (λ x. manager_step x (ManagerEvent.Propose base change)) e
  is_made_by (Activate manager) e = manager_made (Activate manager) tt refl manager (λ x. manager_step x ManagerEvent.Activate) e

-- the node's event is one that a node may be given
module _ (w : WorldState) (own : IsOwn w) where
  received : (number : ℕ) (o : Option Letter) (e : NodeEvent) → numbered number w.letters ≡ o → option_map NodeEvent.Receive o ≡ Some e → IsNodeEvent e
  received number None e found is = cc
  received number (Some l) e found is =
      let same : NodeEvent.Receive l ≡ e = cc in
      subst IsNodeEvent same (numbered_holds IsLetter number w.letters l own.sound.letters found)

  installed : (epoch : ℕ) (o : Option View) (e : NodeEvent) → numbered epoch w.views ≡ o → option_map NodeEvent.Install o ≡ Some e → IsNodeEvent e
  installed epoch None e found is = cc
  installed epoch (Some v) e found is =
      let same : NodeEvent.Install v ≡ e = cc in
      subst IsNodeEvent same (numbered_holds IsView epoch w.views v own.sound.each found)

  of : (d e : NodeEvent) → Some d ≡ Some e → IsNodeEvent d → IsNodeEvent e
  of d e is within = let same : d ≡ e = cc in subst IsNodeEvent same within

  node_within : (event : Event) (e : NodeEvent) → IsEvent event → node_event w event ≡ Some e → IsNodeEvent e
  node_within (Call id key op) e within is = of (NodeEvent.Call (next_call w) key op) e is tt
  node_within (Take number) e within is = received number (numbered number w.letters) e refl is
  node_within (Tick actor to) e within is = of (NodeEvent.Tick to) e is within.1
  node_within (Resend id key) e within is = of (NodeEvent.Resend key) e is tt
  node_within (Replay id key) e within is = of (NodeEvent.Replay key) e is tt
  node_within (Copy id from room) e within is = of (NodeEvent.AskCopy from room) e is within
  node_within (Install id epoch) e within is = installed epoch (numbered epoch w.views) e refl is
  node_within (Lease id end) e within is = of (NodeEvent.Grant end) e is within
  node_within (TickAll to) e within is = cc
  node_within (Crash actor) e within is = cc
  node_within (Start id) e within is = cc
  node_within (Agree change) e within is = cc
  node_within (AskLease id manager) e within is = of (NodeEvent.AskLease manager) e is tt
  node_within (Propose manager base change) e within is = cc
  node_within (Activate manager) e within is = cc

-- ---- what a step tells
-- one reply at most
abbrev pub IsLone : List Reply → Type 0
IsLone [] = ⊤
IsLone (r ∷ []) = ⊤
IsLone (r ∷ s ∷ rs) = ⊥

quiet : (low : Option (List ℕ)) (key : List ℕ) (told : List (List ℕ × Reply)) → RisesBehind low (keys_of told) → is_behind low key ≡ false →
    told_at key told ≡ []
quiet low key [] rises out = refl
quiet low key (t ∷ told) rises out =
    ap (λ (b : Bool). cond b (t.1 ∷ told_at key told) (told_at key told)) (same_not key t.0 (bound_differs low t.0 key rises.0 out))
    ∙ quiet (Some t.0) key told rises.1 (not_down low t.0 key rises.0 out)

behind_all : (k : List ℕ) (ks : List (List ℕ)) → AllByRecursion (λ y. key_cmp k y ≡ Less) ks → AllByRecursion (λ y. is_behind (Some k) y ≡ true) ks
behind_all k [] all = tt
behind_all k (y ∷ ks) all = (test_of_below k y all.0, behind_all k ks all.1)

rises : (low : Option (List ℕ)) (ks : List (List ℕ)) → AllByRecursion (λ y. is_behind low y ≡ true) ks → IsStrictlySortedBy key_cmp ks → RisesBehind low ks
rises low [] all s = tt
rises low (k ∷ ks) all s = (all.0, rises (Some k) ks (behind_all k ks (sorted_head key_cmp k ks s)) (sorted_tail key_cmp k ks s))

pub lone_sorted : (key : List ℕ) (told : List (List ℕ × Reply)) → IsStrictlySortedBy key_cmp (keys_of told) → IsLone (told_at key told)
lone_sorted key [] sorted = tt
lone_sorted key (t ∷ told) sorted = ⊎_elim
    (λ (e : key ≡ t.0).
    let none : told_at key told ≡ [] = quiet (Some t.0) key told
    (rises (Some t.0) (keys_of told) (behind_all t.0 (keys_of told) (sorted_head key_cmp t.0 (keys_of told) sorted))
    (sorted_tail key_cmp t.0 (keys_of told) sorted))
    (subst (λ (k : List ℕ). is_behind (Some t.0) k ≡ false) (sym e) (not_behind_itself t.0)) in
    let all : told_at key (t ∷ told) ≡ t.1 ∷ [] = ap (λ (b : Bool). cond b (t.1 ∷ told_at key told) (told_at key told)) (same_of key t.0 e)
    ∙ ap (λ (rs : List Reply). t.1 ∷ rs) none in
    subst IsLone (sym all) tt)
    (λ (ne : key ≢ t.0).
    subst IsLone (sym (ap (λ (b : Bool). cond b (t.1 ∷ told_at key told) (told_at key told)) (same_not key t.0 ne)))
    (lone_sorted key told (sorted_tail key_cmp t.0 (keys_of told) sorted))) (cases_key key t.0)

-- ---- what holds of every step
module _ (w : WorldState) (own : IsOwn w) (x : NodeState) (ok : IsNode x) where
  by_step : (P : Stepped → Type 0) → ((e : NodeEvent) → IsNodeEvent e → P (node_step x e)) → (o : Stepped) (event : Event) → IsEvent event →
      IsStepOf w x o event → P o
  by_step P steps o event within how = subst P (sym how.2) (steps how.0 (node_within w own event how.0 within how.1))

  pub told_lone : (o : Stepped) (event : Event) → IsEvent event → IsStepOf w x o event → (key : List ℕ) → IsLone (told_at key o.told)
  told_lone o event within how key = by_step (λ (o : Stepped). IsLone (told_at key o.told))
      (λ e inside. lone_sorted key (node_step x e).told (told_in_order x e ok inside)) o event within how

  pub changed_rows_are : (o : Stepped) (event : Event) → IsEvent event → IsStepOf w x o event → AreChanged (changed_rows x.rows o.node.rows) x.rows o.node.rows
  changed_rows_are = by_step (λ (o : Stepped). AreChanged (changed_rows x.rows o.node.rows) x.rows o.node.rows)
      (λ e inside. reports_are_exact x e ok inside)

-- ---- a call
-- what waits on the row is no call that is yet to come
waits_before : (o : Option Pending) (calls : ℕ) (call : CallNo) → IfSome o (IsPendingOf calls) →
    IsSomeAnd o (λ q. IsSomeAnd q.reply (λ kept. kept.call ≡ call)) → calls < call.0 → ⊥
waits_before None calls call p h lt = h
waits_before (Some q) calls call p h lt = by_reply q.reply p.call h
  where
    by_reply : (r : Option Reply) → IfSome r (λ r. r.call.0 ≤ calls) → IsSomeAnd r (λ kept. kept.call ≡ call) → ⊥
    by_reply None le is = is
    by_reply (Some r) le is = absurd (let e : r.call.0 ≡ call.0 = ap (λ (c : CallNo). c.0) is in omega arith)

-- a call is answered at once, or the row has a new stamp and nothing is told
pub record BeginsQuietly (x : NodeState) (key : List ℕ) (o : Stepped) : Type 0 where
  pub silent : o.told ≡ []
  pub rises : tag_of (row_at key o.node.rows).stamp ≢ tag_of (row_at key x.rows).stamp

pub call_told : (w : WorldState) (id : ℕ) (x : NodeState) (key : List ℕ) (op : Op) → IsOwn w → node_at id w.processes ≡ Some x → IsNode x →
    IsAnsweredAlone key (next_call w) (called x (next_call w) key op) ⊎ BeginsQuietly x key (called x (next_call w) key op)
call_told w id x key op own at ok = ⊎_elim inl (λ (h : HasBegun (called x (next_call w) key op) key (next_call w)). inr
    (record { silent = h.silent; rises = risen h })) (calls_are_taken x (next_call w) key op ok)
  where
    risen : HasBegun (called x (next_call w) key op) key (next_call w) →
        tag_of (row_at key (called x (next_call w) key op).node.rows).stamp ≢ tag_of (row_at key x.rows).stamp
    risen h same =
        let o : Stepped = called x (next_call w) key op in
        let differs : row_at key o.node.rows ≢ row_at key x.rows = λ (e : row_at key o.node.rows ≡ row_at key x.rows).
        waits_before (row_at key x.rows).pending w.calls (next_call w) ((own.node id x at).row key).pending
        (subst (λ (r : Row). IsSomeAnd r.pending (λ q. IsSomeAnd q.reply (λ kept. kept.call ≡ next_call w))) e h.update) (omega arith) in
        let up = begin_raises x (next_call w) key op ok ((own.node id x at).row key).small differs in
        omega (arith, up, same)
