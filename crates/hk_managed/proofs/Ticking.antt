-- A tick is a move of each manager whose clock rises, by which it learns nothing.
use Rattle.std.proofs.Common.{◌≡◌, ◌≢◌, ◌≤◌, ◌<◌, ℕ, zero, suc, List, [], ◌∷◌, ◌++◌, map, length, Bool, true, false, cond, not, Some, refl, sym, ap, ◌∙◌, ⊎_elim, arith, append-nil}
use Rattle.std.proofs.lemmas.Bool.{cases_eq, le-ltb}
use Rattle.std.proofs.lemmas.List.{length-map}
use Rattle.hk_base.specs.declared.view.View.{View}
use Rattle.hk_paxos.specs.Run.{put}
use Rattle.hk_manager.specs.declared.event.ManagerEvent.TheVariants as ManagerEvent
use Rattle.hk_manager.specs.Manager.{ManagerState}
use Rattle.hk_manager.specs.Steps.{manager_ticks}
use Rattle.hk_council.specs.Council.{Council, MayHappen, learned_with, next, start}
use Rattle.hk_council.specs.Council.Event.{Step}
use Rattle.hk_world.specs.declared.process.ManagerProcess.{ManagerProcess}
use Rattle.hk_world.specs.World.{WorldState, manager_at, last_view}
use Rattle.hk_world.specs.Steps.{learned, manager_ticked}
use Rattle.hk_managed.specs.Council.{IsCouncilOf}
use Rattle.std.proofs.lemmas.Option.{slice_get_within}
use Rattle.hk_managed.proofs.Places.{there_is, mapped, epoch_within}
use Rattle.hk_managed.proofs.Chain.{chain_epochs, last_numbered}
use Rattle.hk_managed.proofs.Agreeing.{IsCouncil}
use Rattle.hk_managed.proofs.Convening.{Reached, reach_same, reach_more, HasCouncil, then_has, put_here, put_there, same_learned, the_process}

-- ---- what is held was learned
pub no_news : (w : WorldState) → IsCouncil w → (m : ℕ) (p : ManagerProcess) → manager_at m w.managers ≡ Some p → learned w.views p.manager.held ≡ w.views
no_news w council m p at =
    let within = epoch_within w.views p.manager.held.epoch p.manager.held (council.held m p at) in
    let last = chain_epochs w.views council.chain (length w.views) (last_view w.views) (last_numbered w.views (omega (arith, within.0, within.1))) in
    ap (λ (b : Bool). cond b (w.views ++ p.manager.held ∷ []) w.views) (le-ltb (last_view w.views).epoch p.manager.held.epoch (omega (arith, within.1, last)))

module _ (w : WorldState) (h : HasCouncil w) (council : IsCouncil w) (to : ℕ) where
  abbrev c0 : Council
  c0 = start h.count h.lease h.first

  -- the managers below n have made their move
  record TickedTo (n : ℕ) (d : Council) : Type 0 where
    done : (j : ℕ) (p : ManagerProcess) → manager_at j w.managers ≡ Some p → j < n → d.manager j ≡ (manager_ticked to p).manager
    left : (j : ℕ) (p : ManagerProcess) → manager_at j w.managers ≡ Some p → n ≤ j → d.manager j ≡ p.manager
    stopped : (j : ℕ) (p : ManagerProcess) → manager_at j w.managers ≡ Some p → d.stopped j ≡ p.crashed
    sent : d.sent ≡ w.letters
    learned_all : d.learned ≡ w.views

  -- the next one does, or has crashed
  module _ (n : ℕ) (p : ManagerProcess) (at : manager_at n w.managers ≡ Some p) where
    same_place : (j : ℕ) (q : ManagerProcess) → j ≡ n → manager_at j w.managers ≡ Some q → q ≡ p
    same_place j q e there = the_process q p (sym there ∙ (ap (λ (k : ℕ). manager_at k w.managers) e ∙ at))

    below : (d : Council) (manager : ℕ → ManagerState) → TickedTo n d → manager n ≡ (manager_ticked to p).manager → ((j : ℕ) → j ≢ n → manager j ≡ d.manager j) →
        (j : ℕ) (q : ManagerProcess) → manager_at j w.managers ≡ Some q → j < suc n → manager j ≡ (manager_ticked to q).manager
    below d manager t now others j q there low = ⊎_elim
        (λ (e : j ≡ n). ap manager e ∙ (now ∙ ap (λ (r : ManagerProcess). (manager_ticked to r).manager) (sym (same_place j q e there))))
        (λ (off : j ≢ n). others j off ∙ t.done j q there (omega (arith, low, off))) (cases_eq j n)

    above : (d : Council) (manager : ℕ → ManagerState) → TickedTo n d → ((j : ℕ) → j ≢ n → manager j ≡ d.manager j) → (j : ℕ) (q : ManagerProcess) → manager_at j w.managers ≡ Some q → suc n ≤ j → manager j ≡ q.manager
    above d manager t others j q there up = others j (λ e. absurd (omega (arith, e, up))) ∙ t.left j q there (omega (arith, up))

    passed : p.crashed ≡ true → (d : Council) → TickedTo n d → TickedTo (suc n) d
    passed crashed d t = record {
      done = below d d.manager t (t.left n p at (omega arith) ∙ sym (ap (λ (b : Bool). (cond (not b) (record p { manager = (manager_ticks p.manager to).manager }) p).manager) crashed)) (λ j off. refl);
      left = above d d.manager t (λ j off. refl);
      stopped = t.stopped;
      sent = t.sent;
      learned_all = t.learned_all;
    }

    moved : p.crashed ≡ false → (d : Council) → TickedTo n d → MayHappen h.count d (Step n (ManagerEvent.Tick to)) × TickedTo (suc n) (next d (Step n (ManagerEvent.Tick to)))
    moved runs d t = (
      (record { known = let k = slice_get_within w.managers n p at in let e = h.many in omega (arith, k, e); running = t.stopped n p at ∙ runs }, tt),
      record {
        done = below d (put n (manager_ticks (d.manager n) to).manager d.manager) t
            (put_here n (manager_ticks (d.manager n) to).manager d.manager ∙ (ap (λ (g : ManagerState). (manager_ticks g to).manager) here
            ∙ sym (ap (λ (b : Bool). (cond (not b) (record p { manager = (manager_ticks p.manager to).manager }) p).manager) runs)))
            (λ j off. put_there n j (manager_ticks (d.manager n) to).manager d.manager off);
        left = above d (put n (manager_ticks (d.manager n) to).manager d.manager) t (λ j off. put_there n j (manager_ticks (d.manager n) to).manager d.manager off);
        stopped = t.stopped;
        sent = append-nil d.sent ∙ t.sent;
        learned_all = ap (λ (v : List View). learned_with v (d.manager n).held) t.learned_all ∙ (ap (λ (g : ManagerState). learned_with w.views g.held) here ∙ (same_learned w.views p.manager.held ∙ no_news w council n p at));
      },
    )
      where
        here : d.manager n ≡ p.manager
        here = t.left n p at (omega arith)

  ticked_to : (n : ℕ) → n ≤ length w.managers → Reached h.count c0 (TickedTo n)
  ticked_to zero low = reach_same h.count c0 (IsCouncilOf w) (TickedTo zero) (λ d is. record {
    done = λ j p at below. absurd (omega (arith, below));
    left = λ j p at up. is.managers j p at;
    stopped = is.stopped;
    sent = is.sent;
    learned_all = is.learned;
  }) h.reached
  ticked_to (suc n) low =
      let p = there_is w.managers n (omega (arith, low)) in
      by_crashed p.0 p.1 p.0.crashed refl (ticked_to n (omega (arith, low)))
    where
      by_crashed : (p : ManagerProcess) → manager_at n w.managers ≡ Some p → (b : Bool) → p.crashed ≡ b → Reached h.count c0 (TickedTo n) → Reached h.count c0 (TickedTo (suc n))
      by_crashed p at true e r = reach_same h.count c0 (TickedTo n) (TickedTo (suc n)) (passed n p at e) r
      by_crashed p at false e r = reach_more h.count c0 (TickedTo n) (TickedTo (suc n)) (Step n (ManagerEvent.Tick to)) (moved n p at e) r

  -- all clocks rise
  pub all_has : (after : WorldState) → after.managers ≡ map (manager_ticked to) w.managers → after.letters ≡ w.letters → after.views ≡ w.views → HasCouncil after
  all_has after managers letters views = then_has w after h (ap length managers ∙ length-map w.managers (manager_ticked to))
      (reach_same h.count c0 (TickedTo (length w.managers)) (IsCouncilOf after) (λ d t. record {
        managers = λ j q there.
            let p = mapped (manager_ticked to) w.managers j q (ap (manager_at j) (sym managers) ∙ there) in
            t.done j p.0 p.1 (slice_get_within w.managers j p.0 p.1) ∙ sym (ap (λ (r : ManagerProcess). r.manager) p.2);
        stopped = λ j q there.
            let p = mapped (manager_ticked to) w.managers j q (ap (manager_at j) (sym managers) ∙ there) in
            t.stopped j p.0 p.1 ∙ (still p.0 (not p.0.crashed) ∙ sym (ap (λ (r : ManagerProcess). r.crashed) p.2));
        sent = t.sent ∙ sym letters;
        learned = t.learned_all ∙ sym views;
      }) (ticked_to (length w.managers) (omega arith)))
    where
      still : (p : ManagerProcess) (b : Bool) → p.crashed ≡ (cond b (record p { manager = (manager_ticks p.manager to).manager }) p).crashed
      still p true = refl
      still p false = refl
