-- The clocks that a world keeps go by events of clocks, so they keep the rate.
use Rattle.std.proofs.Common.{◌≡◌, ◌⊎◌, ◌≤◌, ◌<◌, ◌==◌, ℕ, zero, suc, List, [], ◌∷◌, length, Bool, true, false, cond, nat_lt, nat_le, Option, Some, None, Result, Ok, Err, is_some, unwrap_or, refl, sym, ap, subst, ◌∙◌, inl, inr, ⊎_elim, arith}
use Rattle.std.specs.List.{AllByRecursion, find}
use Rattle.std.specs.BTreeMap.{is_at}
use Rattle.hk_base.specs.declared.stamp.NodeId.{NodeId}
use Rattle.hk_base.specs.declared.time.TheConstants.{MAX_TIME}
use Rattle.hk_base.specs.declared.view.View.{View}
use Rattle.hk_base.specs.declared.view.Change.{Change}
use Rattle.hk_base.specs.declared.view.Change.TheVariants.{Drop, Add}
use Rattle.hk_base.specs.declared.letter.Actor.{Actor}
use Rattle.hk_base.specs.declared.letter.Actor.TheVariants.{Node, Manager}
use Rattle.hk_base.specs.declared.letter.Letter.{Letter}
use Rattle.hk_clocks.specs.declared.fault.ClockFault.{ClockFault}
use Rattle.hk_clocks.specs.Clocks.{ClockState, Paces, by_actor, pace_of}
use Rattle.hk_clocks.specs.Steps.{ClockEvent, clock_step, greatest_clock}
use Rattle.hk_clocks.specs.Paced.{Moment, AreLiveFrom, DoNotFall, IsPaced, AreLeads}
use Rattle.hk_clocks.specs.Laws.{AreWithin}
use Rattle.hk_clocks.specs.Runs.{IsEvent as IsClockEvent, made_or, seen, lead_of, leads_in}
use Rattle.hk_clocks.proofs.Deciding.{decide}
use Rattle.hk_clocks.proofs.Following.{Follows, still, fall_not, are_leads}
use Rattle.hk_clocks.proofs.Running.{goes, lead_within}
use Rattle.hk_manager.specs.declared.event.ManagerEvent.TheVariants as ManagerEvent
use Rattle.hk_manager.specs.declared.fault.ManagerFault.{ManagerFault}
use Rattle.hk_manager.specs.Manager.{ManagerState}
use Rattle.hk_manager.specs.Steps.{ManagerStepped, manager_step as step_of}
use Rattle.hk_node.specs.Node.{NodeState, epoch_of}
use Rattle.hk_base.specs.View.{is_member}
use Rattle.hk_node.specs.Copies.{asks_copy}
use Rattle.hk_node.specs.Steps.{receives, resent, replayed, asks_lease}
use Rattle.hk_earned.proofs.Clocked.{skew_kept}
use Rattle.hk_event.specs.declared.event.Event.{Event}
use Rattle.hk_event.specs.declared.event.Event.TheVariants.{Call, Take, Tick, TickAll, Crash, Resend, Replay, Copy, Start, Agree, Install, Lease, AskLease, Propose, Activate}
use Rattle.hk_world.specs.declared.process.Process.{Process}
use Rattle.hk_world.specs.declared.process.ManagerProcess.{ManagerProcess}
use Rattle.hk_event.specs.declared.refused.Refused.{Refused}
use Rattle.hk_event.specs.declared.refused.Refused.TheVariants.{NotMember}
use Rattle.hk_world.specs.World.{WorldState, process_at, put_process, manager_at, clocks_of, paces_by, numbered, last_view}
use Rattle.hk_world.specs.Start.{founding_actors, founding_paces, first_pace, start}
use Rattle.hk_world.specs.Steps.{Accepted, nothing, aside, acts, running_at, live_at, live, managing_at, live_manager_at, live_actor, manager_acts, calls_at, takes, ticked_by, ticks_at, manager_ticked_by, manager_ticks_at, all_ticked_by, all_tick, crashes_at, manager_crashes_at, joining, may_join, starts_at, unmanaged, agrees, may_run, guarded_by, installs_at, leases_at, world_step}
use Rattle.hk_world.specs.Sound.{IsEvent, IsWorld}
use Rattle.hk_world.specs.Laws.{StartIsSound, StepKeepsSound}
use Rattle.hk_world.proofs.Clocked.{greatest_within}
use Rattle.hk_managed.specs.Runs.{after}
use Rattle.hk_managed.specs.Rate.{moment_of, world_at, WorldsKeepTheRate}
use Rattle.hk_managed.proofs.Mirror.{as_clocks, paces_made}

-- ---- one event
-- no clock changes, or clocks change by an event of clocks
abbrev Goes : WorldState → Result Accepted Refused → Type 0
Goes w r = (clocks_of (after w r) ≡ clocks_of w) ⊎ ((event : ClockEvent) × IsClockEvent event × (clocks_of (after w r) ≡ made_or (clocks_of w) (clock_step (clocks_of w) event)))

clocks_by : (w : WorldState) (event : ClockEvent) (paces : Paces) → paces_by w event ≡ paces → ◌≡◌ {A = ClockState} (record { skew = w.skew; paces = paces }) (made_or (clocks_of w) (clock_step (clocks_of w) event))
clocks_by w event paces is = sym (as_clocks (made_or (clocks_of w) (clock_step (clocks_of w) event)) w.skew (skew_kept (clocks_of w) event) ∙ ap (λ (p : Paces). record { skew = w.skew; paces = p }) is)

module _ (w : WorldState) (sound : IsWorld w) where
  by_node : (o : Option Process) (step : NodeState → Result Accepted Refused) → ((x : NodeState) → Goes w (step x)) → Goes w (live_at o step)
  by_node None step each = inl refl
  by_node (Some p) step each = at p.crashed
    where
      at : (b : Bool) → Goes w (running_at b p.node step)
      at true = inl refl
      at false = each p.node

  by_manager : (o : Option ManagerProcess) (step : ManagerState → Result Accepted Refused) → ((g : ManagerState) → Goes w (step g)) → Goes w (live_manager_at o step)
  by_manager None step each = inl refl
  by_manager (Some p) step each = at p.crashed
    where
      at : (b : Bool) → Goes w (managing_at b p.manager step)
      at true = inl refl
      at false = each p.manager

  of_actor : (actor : Actor) (node : NodeId → NodeState → Result Accepted Refused) (manager : ℕ → ManagerState → Result Accepted Refused) → ((id : NodeId) (x : NodeState) → actor ≡ Node id → Goes w (node id x)) →
      ((m : ℕ) (g : ManagerState) → actor ≡ Manager m → Goes w (manager m g)) → Goes w (live_actor w actor node manager)
  of_actor (Node id) node manager nodes managers = by_node (process_at id w.processes) (node id) (λ x. nodes id x refl)
  of_actor (Manager m) node manager nodes managers = by_manager (manager_at m w.managers) (manager m) (λ g. managers m g refl)

  stepped : (m : ℕ) (r : Result ManagerStepped ManagerFault) → Goes w (manager_acts w m r)
  stepped m (Ok s) = inl refl
  stepped m (Err fault) = inl refl

  ticked : (to : ℕ) → to ≤ MAX_TIME → (id : NodeId) (x : NodeState) → Goes w (ticks_at w to id x)
  ticked to low id x = at (clock_step (clocks_of w) (ClockEvent.Tick (Node id) to)) refl
    where
      at : (r : Result ClockState ClockFault) → clock_step (clocks_of w) (ClockEvent.Tick (Node id) to) ≡ r → Goes w (ticked_by r w id to x)
      at (Ok clocks) is = inr (ClockEvent.Tick (Node id) to, low, clocks_by w (ClockEvent.Tick (Node id) to) clocks.paces (paces_made w (ClockEvent.Tick (Node id) to) clocks is))
      at (Err fault) is = inl refl

  manager_ticked : (to : ℕ) → to ≤ MAX_TIME → (m : ℕ) (g : ManagerState) → Goes w (manager_ticks_at w to m g)
  manager_ticked to low m g = at (clock_step (clocks_of w) (ClockEvent.Tick (Manager m) to)) refl
    where
      at : (r : Result ClockState ClockFault) → clock_step (clocks_of w) (ClockEvent.Tick (Manager m) to) ≡ r → Goes w (manager_ticked_by r w m to g)
      at (Ok clocks) is = inr (ClockEvent.Tick (Manager m) to, low, clocks_by w (ClockEvent.Tick (Manager m) to) clocks.paces (paces_made w (ClockEvent.Tick (Manager m) to) clocks is))
      at (Err fault) is = inl refl

  all_ticked : (to : ℕ) → to ≤ MAX_TIME → Goes w (all_tick w to)
  all_ticked to low = at (clock_step (clocks_of w) (ClockEvent.TickAll to)) refl
    where
      at : (r : Result ClockState ClockFault) → clock_step (clocks_of w) (ClockEvent.TickAll to) ≡ r → Goes w (all_ticked_by r w to)
      at (Ok clocks) is = inr (ClockEvent.TickAll to, low, clocks_by w (ClockEvent.TickAll to) clocks.paces (paces_made w (ClockEvent.TickAll to) clocks is))
      at (Err fault) is = inl refl

  started : (id : NodeId) (o : Option Process) → Goes w (starts_at o w id)
  started id (Some p) = inl refl
  started id None = at (may_join w id)
    where
      event : ClockEvent
      event = ClockEvent.Start (Node id) (greatest_clock 1 w.paces)

      at : (b : Bool) → Goes w (cond b (aside (record w { processes = put_process id (joining w id) w.processes; paces = paces_by w (ClockEvent.Start (Node id) (greatest_clock 1 w.paces)) }) nothing) (Err NotMember))
      at true = inr (event, greatest_within (clocks_of w) 1 sound.clocks (omega arith), clocks_by w event (paces_by w event) refl)
      at false = inl refl

  -- ---- views and leases from outside change no clock
  told : (ms : List ManagerProcess) (r : Result Accepted Refused) → Goes w r → Goes w (unmanaged ms r)
  told [] r goes = goes
  told (p ∷ ms) r goes = inl refl

  chosen : (b : Bool) (r s : Result Accepted Refused) → Goes w r → Goes w s → Goes w (cond b r s)
  chosen true r s p q = p
  chosen false r s p q = q

  agreed : (view : View) (change : Change) → Goes w (agrees w view change)
  agreed view (Drop id) = chosen (is_member id view.members) _ _ (chosen (length view.members == 1) _ _ (inl refl) (inl refl)) (inl refl)
  agreed view Add = chosen (nat_le 16 (length view.members)) _ _ (inl refl) (chosen (nat_le 65536 view.next) _ _ (inl refl) (inl refl))

  guarded : (o : Option (NodeId × Process)) (id : NodeId) (x : NodeState) (view : View) → Goes w (guarded_by o w id x view)
  guarded None id x view = inl refl
  guarded (Some p) id x view = inl refl

  installed : (o : Option View) (id : NodeId) (x : NodeState) → Goes w (installs_at o w id x)
  installed None id x = inl refl
  installed (Some view) id x = chosen (is_member id view.members) _ _ (chosen (nat_lt (epoch_of x) view.epoch) _ _ (guarded (find (may_run w.views view) w.processes) id x view) (inl refl)) (inl refl)

  leased : (id : NodeId) (end : ℕ) (x : NodeState) → Goes w (leases_at w id end x)
  leased id end x = chosen (is_member id (last_view w.views).members) _ _ (inl refl) (inl refl)

  taken : (o : Option Letter) → Goes w (takes w o)
  taken None = inl refl
  taken (Some l) = of_actor l.to (λ id node. acts w id node (receives node l)) (λ m g. manager_acts w m (step_of g (ManagerEvent.Receive l))) (λ id x to. inl refl) (λ m g to. stepped m (step_of g (ManagerEvent.Receive l)))

  goes_by : (event : Event) → IsEvent event → Goes w (world_step w event)
  goes_by (Call id key op) is = by_node (process_at id w.processes) (calls_at w id key op) (λ x. inl refl)
  goes_by (Take n) is = taken (numbered n w.letters)
  goes_by (Tick actor to) is = of_actor actor (ticks_at w to) (manager_ticks_at w to) (λ id x to_it. ticked to is.1 id x) (λ m g to_it. manager_ticked to is.1 m g)
  goes_by (TickAll to) is = all_ticked to is
  goes_by (Crash actor) is = of_actor actor (crashes_at w) (manager_crashes_at w)
      (λ id x to_it. inr (ClockEvent.Stop (Node id), tt, clocks_by w (ClockEvent.Stop (Node id)) (paces_by w (ClockEvent.Stop (Node id))) refl))
      (λ m g to_it. inr (ClockEvent.Stop (Manager m), tt, clocks_by w (ClockEvent.Stop (Manager m)) (paces_by w (ClockEvent.Stop (Manager m))) refl))
  goes_by (Resend id key) is = by_node (process_at id w.processes) (λ node. acts w id node (resent node key)) (λ x. inl refl)
  goes_by (Replay id key) is = by_node (process_at id w.processes) (λ node. acts w id node (replayed node key)) (λ x. inl refl)
  goes_by (Copy id from room) is = by_node (process_at id w.processes) (λ node. acts w id node (asks_copy node from room)) (λ x. inl refl)
  goes_by (Start id) is = started id (process_at id w.processes)
  goes_by (Agree change) is = told w.managers (agrees w (last_view w.views) change) (agreed (last_view w.views) change)
  goes_by (Install id epoch) is = told w.managers (live w id (λ node. installs_at (numbered epoch w.views) w id node)) (by_node (process_at id w.processes) (λ node. installs_at (numbered epoch w.views) w id node) (λ x. installed (numbered epoch w.views) id x))
  goes_by (Lease id end) is = told w.managers (live w id (leases_at w id end)) (by_node (process_at id w.processes) (leases_at w id end) (λ x. leased id end x))
  goes_by (AskLease id m) is = by_node (process_at id w.processes) (λ node. acts w id node (asks_lease node m)) (λ x. inl refl)
  goes_by (Propose m base change) is = by_manager (manager_at m w.managers) (λ g. manager_acts w m (step_of g (ManagerEvent.Propose base change))) (λ g. stepped m (step_of g (ManagerEvent.Propose base change)))
  goes_by (Activate m) is = by_manager (manager_at m w.managers) (λ g. manager_acts w m (step_of g ManagerEvent.Activate)) (λ g. stepped m (step_of g ManagerEvent.Activate))

  follows_by : (event : Event) → IsEvent event → Follows (clocks_of w) (clocks_of (after w (world_step w event)))
  follows_by event is = ⊎_elim
      (λ (same : clocks_of (after w (world_step w event)) ≡ clocks_of w). subst (Follows (clocks_of w)) (sym same) (still (clocks_of w)))
      (λ (by : (clock_event : ClockEvent) × IsClockEvent clock_event × (clocks_of (after w (world_step w event)) ≡ made_or (clocks_of w) (clock_step (clocks_of w) clock_event))).
      subst (Follows (clocks_of w)) (sym by.2) (goes (clocks_of w) by.0 sound.clocks by.1).follows) (goes_by event is)

  skew_by : (event : Event) → IsEvent event → (after w (world_step w event)).skew ≡ w.skew
  skew_by event is = ⊎_elim
      (λ (same : clocks_of (after w (world_step w event)) ≡ clocks_of w). ap (λ (c : ClockState). c.skew) same)
      (λ (by : (clock_event : ClockEvent) × IsClockEvent clock_event × (clocks_of (after w (world_step w event)) ≡ made_or (clocks_of w) (clock_step (clocks_of w) clock_event))).
      ap (λ (c : ClockState). c.skew) by.2 ∙ skew_kept (clocks_of w) by.0) (goes_by event is)

-- ---- one event after the other
pub first_at : (w : WorldState) (events : List Event) → world_at w events 0 ≡ w
first_at w [] = refl
first_at w (event ∷ events) = refl

module _ (steps : StepKeepsSound) where
  sound_after : (w : WorldState) → IsWorld w → (event : Event) → IsEvent event → IsWorld (after w (world_step w event))
  sound_after w sound event is = at (world_step w event) refl
    where
      at : (r : Result Accepted Refused) → world_step w event ≡ r → IsWorld (after w r)
      at (Ok a) e = steps w event a sound is e
      at (Err refused) e = sound

  pub sound_at : (w : WorldState) → IsWorld w → (events : List Event) → AllByRecursion IsEvent events → (i : ℕ) → IsWorld (world_at w events i)
  sound_at w sound [] are i = sound
  sound_at w sound (event ∷ events) are zero = sound
  sound_at w sound (event ∷ events) are (suc i) = sound_at (after w (world_step w event)) (sound_after w sound event are.0) events are.1 i

  pub follow_at : (w : WorldState) → IsWorld w → (events : List Event) → AllByRecursion IsEvent events → (i : ℕ) → i < length events → Follows (clocks_of (world_at w events i)) (clocks_of (world_at w events (suc i)))
  follow_at w sound [] are i low = absurd (omega (arith, low))
  follow_at w sound (event ∷ events) are zero low =
      let next = after w (world_step w event) in
      subst (λ (z : WorldState). Follows (clocks_of w) (clocks_of z)) (sym (first_at next events)) (follows_by w sound event are.0)
  follow_at w sound (event ∷ events) are (suc i) low = follow_at (after w (world_step w event)) (sound_after w sound event are.0) events are.1 i (omega (arith, low))

  pub skew_at : (w : WorldState) → IsWorld w → (events : List Event) → AllByRecursion IsEvent events → (i : ℕ) → (world_at w events i).skew ≡ w.skew
  skew_at w sound [] are i = refl
  skew_at w sound (event ∷ events) are zero = refl
  skew_at w sound (event ∷ events) are (suc i) = skew_at (after w (world_step w event)) (sound_after w sound event are.0) events are.1 i ∙ skew_by w sound event are.0

-- ---- moments that look the same
module _ (at same : ℕ → Moment) (live : (i : ℕ) (a : Actor) → (same i).live a ≡ (at i).live a) (clock : (i : ℕ) (a : Actor) → (same i).clock a ≡ (at i).clock a) (skew last : ℕ) where
  was_live : (from to : ℕ) (a b : Actor) → AreLiveFrom same from to a b → AreLiveFrom at from to a b
  was_live from to a b is j low high = let l = is j low high in record { first = sym (live j a) ∙ l.first; second = sym (live j b) ∙ l.second }

  paced_as : IsPaced skew at last → IsPaced skew same last
  paced_as p = record {
    rising = λ a from to up upto is. let h = p.rising a from to up upto (was_live from to a a is) in let x = clock from a in let y = clock to a in omega (arith, h, x, y);
    rate = λ a b from to up upto is.
        let h = p.rate a b from to up upto (was_live from to a b is) in
        let x = clock from a in let y = clock to a in let u = clock from b in let v = clock to b in
        omega (arith, h, x, y, u, v);
  }

-- ---- founders' clocks lead over nobody
pub no_leads : (actors : List Actor) (a b : Actor) → leads_in (pace_of (founding_paces actors) a) b ≡ 0
no_leads [] a b = refl
no_leads (x ∷ actors) a b = at (is_at (by_actor a) x) (no_leads actors a b)
  where
    at : (t : Bool) → leads_in (pace_of (founding_paces actors) a) b ≡ 0 → leads_in (cond t (Some first_pace) (pace_of (founding_paces actors) a)) b ≡ 0
    at true more = refl
    at false more = more

pub paced : StartIsSound → StepKeepsSound → WorldsKeepTheRate
paced starts steps h is events are = paced_as (λ i. seen (at i)) (λ i. moment_of (world i)) (λ i a. ap is_some (sym ((sound i).paced a))) (λ i a. ap (λ (o : Option ℕ). unwrap_or o 0) (sym ((sound i).paced a))) h.skew (length events)
    (record { rising = rising; rate = λ a b. (decide h.skew (λ i. seen (at i)) leads (length events) rising following a b).0 (within a b) })
  where
    world : ℕ → WorldState
    world = world_at (start h) events

    at : ℕ → ClockState
    at i = clocks_of (world_at (start h) events i)

    leads : ℕ → Actor → Actor → ℕ
    leads i = lead_of (clocks_of (world_at (start h) events i))

    sound : (i : ℕ) → IsWorld (world_at (start h) events i)
    sound = sound_at steps (start h) (starts h is) events are

    rising : DoNotFall (λ i. seen (clocks_of (world_at (start h) events i))) (length events)
    rising = fall_not (λ i. clocks_of (world_at (start h) events i)) (length events) (follow_at steps (start h) (starts h is) events are)

    none : (a b : Actor) → lead_of (clocks_of (world_at (start h) events 0)) a b ≡ 0
    none a b = ap (λ (w : WorldState). lead_of (clocks_of w) a b) (first_at (start h) events) ∙ no_leads (founding_actors h) a b

    following : AreLeads (λ i. seen (clocks_of (world_at (start h) events i))) (λ i. lead_of (clocks_of (world_at (start h) events i))) (length events)
    following = are_leads (λ i. clocks_of (world_at (start h) events i)) (length events) (follow_at steps (start h) (starts h is) events are) none

    within : (a b : Actor) → AreWithin h.skew (λ i. seen (clocks_of (world_at (start h) events i))) (λ i. lead_of (clocks_of (world_at (start h) events i))) (length events) a b
    within a b i upto live =
        let l = lead_within (clocks_of (world_at (start h) events i)) (sound i).clocks a b in
        let k = skew_at steps (start h) (starts h is) events are i in
        omega (arith, l, k)
