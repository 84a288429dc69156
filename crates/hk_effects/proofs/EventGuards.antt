-- What each event keeps of leases: views that are agreed, installs behind their guard, leases inside the last view.
use Rattle.std.proofs.Common.{◌≡◌, ◌⊎◌, ℕ, Bool, true, false, cond, not, ◌&&◌, ◌+◌, [], ◌∷◌, ◌++◌, ◌<◌, sym, refl, ap, subst, inl, inr, ⊎_elim, arith, Some, None, Ok, ltb, leb, leb-false}
use Rattle.std.specs.List.{find}
use Rattle.hk_base.specs.declared.stamp.NodeId.{NodeId}
use Rattle.hk_base.specs.declared.view.View.{View}
use Rattle.hk_base.specs.View.{member_numbers, is_member}
use Rattle.hk_register.specs.Machine.{In}
use Rattle.hk_register.proofs.Grow.{in_either}
use Rattle.hk_node.specs.Node.{NodeState, epoch_of}
use Rattle.hk_node.specs.Stepped.{idle}
use Rattle.hk_node.specs.Copies.{asks_copy}
use Rattle.hk_node.specs.Rows.{find_row}
use Rattle.hk_key.specs.Table.{resend}
use Rattle.hk_node.specs.Steps.{receives, resent, replayed, asks_lease, installed_in, installs, grants}
use Rattle.hk_event.specs.declared.event.Event.{Event}
use Rattle.hk_event.specs.declared.event.Event.TheVariants.{Call, Take, Tick, TickAll, Crash, Resend, Replay, Copy, Start, Agree, Install, Lease, AskLease, Propose, Activate}
use Rattle.hk_world.specs.World.{WorldState, process_at, numbered, last_view}
use Rattle.hk_world.specs.Steps.{Accepted, with_step, acts, live, calls_at, ticks_at, manager_ticks_at, crashes_at, manager_crashes_at, agreed_on, agrees, was_member, may_run, installs_at, leases_at, world_step}
use Rattle.hk_effects.specs.Own.{Ended, IsOwn}
use Rattle.hk_effects.proofs.Processes.{numbered_node, cases_member}
use Rattle.hk_effects.proofs.Chain.{last_added}
use Rattle.hk_effects.proofs.Accepting.{alive, proposes_none, activates_none, unmanaged_step, live_step, live_actor_step, takes_step, ticks_step, all_tick_step, crashes_step, starts_step, agrees_step, installs_step, leases_step}
use Rattle.hk_effects.proofs.Leases.{found_seen, replayed_seen, asks_seen, asks_lease_seen, receives_seen, StillEnded, not_passing, was_member_of}
use Rattle.hk_effects.proofs.Worlds.{unmanaged}
use Rattle.hk_effects.proofs.Guards.{EpochGuarded, Guards, step_carries, makes_guards, seen_guards, call_guards, tick_guards, aside_guards, tick_all_guards, crash_guards, join_guards}

module _ (w : WorldState) (own : IsOwn w) (none : w.managers ≡ []) where
  agreed_guards : (v : View) (a : Accepted) → v.epoch ≡ (last_view w.views).epoch + 1 → agreed_on w v ≡ Ok a → Guards w a
  agreed_guards v a next e = aside_guards w (record w { views = w.views ++ v ∷ [] }) (Some v) (λ k g. record {
    upto = rw (last_added w.views v) (let u = g.upto in omega (arith, next));
    ended = λ id y at p q hp hq low at_q in_p out_q. ended k g id y at p q low at_q in_p out_q (old_or_new p hp) (old_or_new q hq);
  }) a e
    where
      old_or_new : (u : View) → In (w.views ++ v ∷ []) u → In w.views u ⊎ (u ≡ v)
      old_or_new u h = ⊎_elim inl (λ (t : In (v ∷ []) u). ⊎_elim inr (λ (none : ⊥). absurd none) t) (in_either w.views (v ∷ []) u h)

      ended : (k : ℕ) → EpochGuarded w k → (id : ℕ) (y : NodeState) → process_at (numbered_node id) w.processes ≡ Some (alive y) → (p q : View) → p.epoch < k → q.epoch ≡ k →
          In (member_numbers p.members) id → (In (member_numbers q.members) id → ⊥) → In w.views p ⊎ (p ≡ v) → In w.views q ⊎ (q ≡ v) → y.granted < y.clock + y.skew
      ended k g id y at p q low at_q in_p out_q (inl hp) (inl hq) = g.ended id y at p q hp hq low at_q in_p out_q
      ended k g id y at p q low at_q in_p out_q hp (inr new) = let up = g.upto in let s = ap (λ (z : View). z.epoch) new in absurd (omega (arith, next, s, at_q, up))
      ended k g id y at p q low at_q in_p out_q (inr new) (inl hq) = let up = g.upto in let s = ap (λ (z : View). z.epoch) new in absurd (omega (arith, next, s, low, up))

  -- an install is accepted where no lease of a node that the view leaves out may run
  ran_out : (v : View) → In w.views v → find (may_run w.views v) w.processes ≡ None → Ended w v.epoch
  ran_out v agreed none id s at p q hp hq low at_q in_p out_q =
      let off = not_passing (may_run w.views v) w.processes none (numbered_node id) (alive s) at in
      let same : q ≡ v = own.views.one q v hq agreed at_q in
      let outside : is_member (numbered_node id) v.members ≡ false = not_in (cases_member (numbered_node id) v.members) (λ h. out_q (subst (λ (z : View). In (member_numbers z.members) id) (sym same) h)) in
      let was : was_member w.views v.epoch (numbered_node id) ≡ true = was_member_of (numbered_node id) v.epoch w.views p hp low in_p in
      leb-false (s.clock + s.skew) s.granted (last_test (was_member w.views v.epoch (numbered_node id)) (is_member (numbered_node id) v.members) (leb (s.clock + s.skew) s.granted) was outside off)
    where
      not_in : {A B : Type 0} → A ⊎ (B × (A → ⊥)) → (A → ⊥) → B
      not_in (inl a) out = absurd (out a)
      not_in (inr b) out = b.0

      last_test : (b c d : Bool) → b ≡ true → c ≡ false → (b && (not c && d)) ≡ false → d ≡ false
      last_test b c d eb ec e = rw (eb, ec) at e

  module _ (id : NodeId) (x : NodeState) (at : process_at id w.processes ≡ Some (alive x)) where
    install_guards : (v : View) → In w.views v → find (may_run w.views v) w.processes ≡ None → (a : Accepted) → acts w id x (installs x v) ≡ Ok a → Guards w a
    install_guards v agreed none a e =
        let s = installs x v in
        let test = ltb (epoch_of x) v.epoch && is_member x.id v.members in
        let g : EpochGuarded w v.epoch = record { upto = (own.views.within v agreed).1; ended = ran_out v agreed none } in
        let still : (e : ℕ) (p q : View) → In w.views p → In w.views q → p.epoch < e → q.epoch ≡ e → In (member_numbers p.members) id.0 → (In (member_numbers q.members) id.0 → ⊥) → StillEnded x s.node = λ e p q hp hq low at_q in_p out_q. keeps_lease test in
        makes_guards w id x at s w.paces still
        (⊎_elim inl (λ (now : epoch_of s.node ≡ v.epoch). inr (subst (λ (i : ℕ). EpochGuarded (with_step w id s) i) (sym now) (step_carries w id x at w.calls w.paces s still v.epoch g))) (new_epoch test)) a e
      where
        keeps_lease : (b : Bool) → StillEnded x (cond b (installed_in (record x { view = Some v }) v.epoch) (idle x)).node
        keeps_lease true h = h
        keeps_lease false h = h

        new_epoch : (b : Bool) → (epoch_of (cond b (installed_in (record x { view = Some v }) v.epoch) (idle x)).node ≡ epoch_of x) ⊎ (epoch_of (cond b (installed_in (record x { view = Some v }) v.epoch) (idle x)).node ≡ v.epoch)
        new_epoch true = inr refl
        new_epoch false = inl refl

    -- a member of the last view is one of each view since it first was: no view leaves it out
    lease_guards : (end : ℕ) → In (member_numbers (last_view w.views).members) id.0 → (a : Accepted) → acts w id x (grants x end) ≡ Ok a → Guards w a
    lease_guards end inside a e = makes_guards w id x at (grants x end) w.paces
        (λ k u v hu hv low at_v in_u out_v. absurd (out_v (own.views.chain u v (last_view w.views) hu hv own.views.last (omega (arith, at_v, low)) (own.views.within v hv).1 id.0 in_u inside))) (inl refl) a e

  guards_at : (event : Event) (a : Accepted) → world_step w event ≡ Ok a → Guards w a
  guards_at (Call id key op) a e = live_step (Guards w a) w a id (calls_at w id key op) (λ x at e. call_guards w id x at key op a e) e
  guards_at (Take n) a e = takes_step (Guards w a) w a none n (λ l found id x at e. seen_guards w id x at (receives x l) (receives_seen x l (unmanaged w own none id x at)) a e) e
  guards_at (Tick actor to) a e = live_actor_step (Guards w a) w a none actor (ticks_at w to) (manager_ticks_at w to) (λ id x at e. ticks_step (Guards w a) w a to id x (λ paces e. tick_guards w id x at to paces a e) e) e
  guards_at (TickAll to) a e = all_tick_step (Guards w a) w a none to (λ paces e. tick_all_guards w to paces a e) e
  guards_at (Crash actor) a e = live_actor_step (Guards w a) w a none actor (crashes_at w) (manager_crashes_at w) (λ id x at e. crashes_step (Guards w a) w a id x (λ paces e. crash_guards w id x paces a e) e) e
  guards_at (Resend id key) a e = live_step (Guards w a) w a id (λ node. acts w id node (resent node key)) (λ x at e. seen_guards w id x at (resent x key) (found_seen x key resend (find_row key x.rows)) a e) e
  guards_at (Replay id key) a e = live_step (Guards w a) w a id (λ node. acts w id node (replayed node key)) (λ x at e. seen_guards w id x at (replayed x key) (replayed_seen x key) a e) e
  guards_at (Copy id from room) a e = live_step (Guards w a) w a id (λ node. acts w id node (asks_copy node from room)) (λ x at e. seen_guards w id x at (asks_copy x from room) (asks_seen x from room) a e) e
  guards_at (Start id) a e = starts_step (Guards w a) w a none id (λ at inside paces e. join_guards w id paces a e) e
  guards_at (Agree change) a e = unmanaged_step (Guards w a) w a (agrees w (last_view w.views) change)
      (λ e. agrees_step (Guards w a) w a own.views change (λ v follows e. agreed_guards v a follows.epoch e) e) e
  guards_at (Install id epoch) a e = unmanaged_step (Guards w a) w a (live w id (λ node. installs_at (numbered epoch w.views) w id node))
      (λ e. live_step (Guards w a) w a id (λ node. installs_at (numbered epoch w.views) w id node)
      (λ x at e. installs_step (Guards w a) w a epoch id x (λ v may e. install_guards id x at v may.agreed may.ended a e) e) e) e
  guards_at (Lease id end) a e = unmanaged_step (Guards w a) w a (live w id (leases_at w id end))
      (λ e. live_step (Guards w a) w a id (leases_at w id end) (λ x at e. leases_step (Guards w a) w a id end x (λ inside e. lease_guards id x at end inside a e) e) e) e
  guards_at (AskLease id manager) a e = live_step (Guards w a) w a id (λ node. acts w id node (asks_lease node manager)) (λ x at e. seen_guards w id x at (asks_lease x manager) (asks_lease_seen x manager) a e) e
  guards_at (Propose manager base change) a e = proposes_none (Guards w a) w a none manager base change e
  guards_at (Activate manager) a e = activates_none (Guards w a) w a none manager e

pub event_guards : (w : WorldState) (event : Event) (a : Accepted) → world_step w event ≡ Ok a → IsOwn w → w.managers ≡ [] → Guards w a
event_guards w event a is own none = guards_at w own none event a is
