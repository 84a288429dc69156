-- Each accepted event of a world with managers is moves of its council, or none.
use Rattle.std.proofs.Common.{◌≡◌, ◌≢◌, ◌<◌, ℕ, List, [], ◌∷◌, ◌++◌, length, Bool, true, false, cond, Some, Ok, nat_lt, refl, sym, ap, subst, ◌∙◌, inl, inr, ⊎_elim, arith}
use Rattle.std.proofs.lemmas.Bool.{cases_eq, eq-eqb, ne_eqb}
use Rattle.std.proofs.lemmas.List.{length-set}
use Rattle.hk_base.specs.declared.view.View.{View}
use Rattle.hk_base.specs.declared.letter.Letter.{Letter}
use Rattle.hk_paxos.specs.Run.{In, put}
use Rattle.hk_manager.specs.declared.event.ManagerEvent.{ManagerEvent}
use Rattle.hk_manager.specs.Manager.{ManagerState}
use Rattle.hk_manager.specs.Steps.{ManagerStepped, manager_step as step_of}
use Rattle.hk_council.specs.Council.{Council, Event as Move, IsNode, WasSent, learned_with, last_epoch, stepped_by, next, MayHappen, IsRun, last_council, start}
use Rattle.hk_council.specs.Council.Event.{Step, Post, Stop}
use Rattle.hk_council.specs.Agreed.{IsAgreed, Agreement}
use Rattle.hk_world.specs.declared.process.ManagerProcess.{ManagerProcess}
use Rattle.hk_world.specs.World.{WorldState, manager_at, put_manager, last_view}
use Rattle.hk_world.specs.Steps.{learned}
use Rattle.hk_managed.specs.Council.{IsCouncilOf}
use Rattle.std.proofs.lemmas.Option.{slice_get_within}
use Rattle.hk_managed.proofs.Places.{set_same, set_other}
use Rattle.hk_managed.proofs.NodeSteps.{FromNodes}
use Rattle.hk_managed.proofs.Agreeing.{IsCouncil, council_of}
use Rattle.hk_managed.proofs.Facts.{managing}

-- ---- runs of a council
last_more : (c : Council) (events more : List Move) → last_council c (events ++ more) ≡ last_council (last_council c events) more
last_more c [] more = refl
last_more c (event ∷ events) more = last_more (next c event) events more

run_more : (count : ℕ) (c : Council) (events more : List Move) → IsRun count c events → IsRun count (last_council c events) more → IsRun count c (events ++ more)
run_more count c [] more run then = then
run_more count c (event ∷ events) more run then = (run.0, run_more count (next c event) events more run.1 then)

-- some run leads to a council of which this holds
pub record Reached (count : ℕ) (c : Council) (P : Council → Type 0) : Type 0 where
  pub events : List Move
  pub run : IsRun count c events
  pub holds : P (last_council c events)

pub reach_same : (count : ℕ) (c : Council) (P Q : Council → Type 0) → ((d : Council) → P d → Q d) → Reached count c P → Reached count c Q
reach_same count c P Q so r = record { events = r.events; run = r.run; holds = so (last_council c r.events) r.holds }

-- by one more move
pub reach_more : (count : ℕ) (c : Council) (P Q : Council → Type 0) (event : Move) → ((d : Council) → P d → MayHappen count d event × Q (next d event)) → Reached count c P → Reached count c Q
reach_more count c P Q event so r =
    let s = so (last_council c r.events) r.holds in
    record {
      events = r.events ++ event ∷ [];
      run = run_more count c r.events (event ∷ []) r.run (s.0, tt);
      holds = subst Q (sym (last_more c r.events (event ∷ []))) s.1;
    }

-- ---- the council of a world
pub record HasCouncil (w : WorldState) : Type 0 where
  pub count : ℕ
  pub many : length w.managers ≡ count
  pub lease : ℕ
  pub first : View
  pub one : first.epoch ≡ 1
  pub reached : Reached count (start count lease first) (IsCouncilOf w)

-- so the managers agree
pub agreed : Agreement → (w : WorldState) → HasCouncil w → (c : Council) × IsCouncilOf w c × IsAgreed (length w.managers) c
agreed agreement w h =
    let c = last_council (start h.count h.lease h.first) h.reached.events in
    (c, h.reached.holds, subst (λ (n : ℕ). IsAgreed n c) (sym h.many) (agreement h.count h.lease h.first h.reached.events h.one h.reached.run))

pub agrees : Agreement → (w : WorldState) → HasCouncil w → IsCouncil w
agrees agreement w h = let c = agreed agreement w h in council_of w c.0 (length w.managers) refl c.1 c.2

pub then_has : (w after : WorldState) (h : HasCouncil w) → length after.managers ≡ length w.managers → Reached h.count (start h.count h.lease h.first) (IsCouncilOf after) → HasCouncil after
then_has w after h many r = record { count = h.count; many = many ∙ h.many; lease = h.lease; first = h.first; one = h.one; reached = r }

pub put_here : {X : Type 0} (m : ℕ) (x : X) (f : ℕ → X) → put m x f m ≡ x
put_here m x f = ap (λ (b : Bool). cond b x (f m)) (eq-eqb m m refl)

pub put_there : {X : Type 0} (m j : ℕ) (x : X) (f : ℕ → X) → j ≢ m → put m x f j ≡ f j
put_there m j x f d = ap (λ (b : Bool). cond b x (f j)) (ne_eqb j m d)

same_last : (views : List View) → last_epoch views ≡ (last_view views).epoch
same_last [] = refl
same_last (v ∷ []) = refl
same_last (v ∷ u ∷ views) = same_last (u ∷ views)

pub same_learned : (views : List View) (held : View) → learned_with views held ≡ learned views held
same_learned views held = ap (λ (n : ℕ). cond (nat_lt n held.epoch) (views ++ held ∷ []) views) (same_last views)

pub the_process : (p q : ManagerProcess) → Some p ≡ Some q → p ≡ q
the_process p q e = cc

-- ---- nodes act
module _ (w : WorldState) (h : HasCouncil w) where
  abbrev c0 : Council
  c0 = start h.count h.lease h.first

  -- nothing that the council sees changes
  pub aside_has : (after : WorldState) → after.managers ≡ w.managers → after.letters ≡ w.letters → after.views ≡ w.views → HasCouncil after
  aside_has after managers letters views = then_has w after h (ap length managers) (reach_same h.count c0 (IsCouncilOf w) (IsCouncilOf after) (λ d is. record {
    managers = λ m p at. is.managers m p (ap (manager_at m) (sym managers) ∙ at);
    stopped = λ m p at. is.stopped m p (ap (manager_at m) (sym managers) ∙ at);
    sent = is.sent ∙ sym letters;
    learned = is.learned ∙ sym views;
  }) h.reached)

  from_nodes : (letters : List Letter) → FromNodes letters → (l : Letter) → In letters l → IsNode l.from
  from_nodes [] all l i = absurd i
  from_nodes (x ∷ letters) all l (inl e) = subst (λ (y : Letter). IsNode y.from) (sym e) all.0
  from_nodes (x ∷ letters) all l (inr i) = from_nodes letters all.1 l i

  -- a node sends letters
  pub posts_has : (after : WorldState) (letters : List Letter) → after.managers ≡ w.managers → after.letters ≡ w.letters ++ letters → after.views ≡ w.views → FromNodes letters → HasCouncil after
  posts_has after letters managers sent views nodes = then_has w after h (ap length managers) (reach_more h.count c0 (IsCouncilOf w) (IsCouncilOf after) (Post letters) (λ d is. (
    from_nodes letters nodes,
    record {
      managers = λ m p at. is.managers m p (ap (manager_at m) (sym managers) ∙ at);
      stopped = λ m p at. is.stopped m p (ap (manager_at m) (sym managers) ∙ at);
      sent = ap (λ (l : List Letter). l ++ letters) is.sent ∙ sym sent;
      learned = is.learned ∙ sym views;
    },
  )) h.reached)

  -- ---- managers act
  module _ (m : ℕ) (g : ManagerState) (at : manager_at m w.managers ≡ Some (managing g)) where
    known : m < h.count
    known = let k = slice_get_within w.managers m (managing g) at in let e = h.many in omega (arith, k, e)

    -- the managers after one of them changed
    changed_managers : (d : Council) (g' : ManagerState) (crashed : Bool) (stopped : ℕ → Bool) → IsCouncilOf w d → (stopped m ≡ crashed) → ((j : ℕ) → j ≢ m → stopped j ≡ d.stopped j) →
        (j : ℕ) (p : ManagerProcess) → manager_at j (put_manager m (record { manager = g'; crashed = crashed }) w.managers) ≡ Some p → (put m g' d.manager j ≡ p.manager) × (stopped j ≡ p.crashed)
    changed_managers d g' crashed stopped is here others j p there = ⊎_elim
        (λ (e : j ≡ m).
        let now : Some (record { manager = g'; crashed = crashed }) ≡ Some p = sym (set_same w.managers m (record { manager = g'; crashed = crashed }) (managing g) at) ∙ (ap (λ (k : ℕ). manager_at k (put_manager m (record { manager = g'; crashed = crashed }) w.managers)) (sym e) ∙ there) in
        let same : record { manager = g'; crashed = crashed } ≡ p = the_process (record { manager = g'; crashed = crashed }) p now in
        (ap (put m g' d.manager) e ∙ (put_here m g' d.manager ∙ ap (λ (q : ManagerProcess). q.manager) same), ap stopped e ∙ (here ∙ ap (λ (q : ManagerProcess). q.crashed) same)))
        (λ (off : j ≢ m).
        let was : manager_at j w.managers ≡ Some p = sym (set_other w.managers m j (record { manager = g'; crashed = crashed }) off) ∙ there in
        (put_there m j g' d.manager off ∙ is.managers j p was, others j off ∙ is.stopped j p was)) (cases_eq j m)

    -- it makes a step
    pub step_has : (event : ManagerEvent) (s : ManagerStepped) (after : WorldState) → ((d : Council) → IsCouncilOf w d → WasSent d event) → step_of g event ≡ Ok s → after.managers ≡ put_manager m (managing s.manager) w.managers →
        after.letters ≡ w.letters ++ s.letters → after.views ≡ learned w.views s.manager.held → HasCouncil after
    step_has event s after was is managers letters views = then_has w after h (ap length managers ∙ length-set w.managers m (managing s.manager))
        (reach_more h.count c0 (IsCouncilOf w) (IsCouncilOf after) (Step m event) (λ d of. (
          (record { known = known; running = of.stopped m (managing g) at }, was d of),
          subst (IsCouncilOf after) (sym (made d of)) (record {
            managers = λ j p there. (changed_managers d s.manager false d.stopped of (of.stopped m (managing g) at) (λ k off. refl) j p (ap (manager_at j) (sym managers) ∙ there)).0;
            stopped = λ j p there. (changed_managers d s.manager false d.stopped of (of.stopped m (managing g) at) (λ k off. refl) j p (ap (manager_at j) (sym managers) ∙ there)).1;
            sent = ap (λ (l : List Letter). l ++ s.letters) of.sent ∙ sym letters;
            learned = ap (λ (v : List View). learned_with v s.manager.held) of.learned ∙ (same_learned w.views s.manager.held ∙ sym views);
          }),
        )) h.reached)
      where
        made : (d : Council) → IsCouncilOf w d → next d (Step m event) ≡ record d { manager = put m s.manager d.manager; sent = d.sent ++ s.letters; learned = learned_with d.learned s.manager.held }
        made d of = ap (λ (k : ManagerState). stepped_by d m (step_of k event)) (of.managers m (managing g) at) ∙ ap (stepped_by d m) is

    -- it stops
    pub stop_has : (after : WorldState) → after.managers ≡ put_manager m (record { manager = g; crashed = true }) w.managers → after.letters ≡ w.letters → after.views ≡ w.views → HasCouncil after
    stop_has after managers letters views = then_has w after h (ap length managers ∙ length-set w.managers m (record { manager = g; crashed = true }))
        (reach_more h.count c0 (IsCouncilOf w) (IsCouncilOf after) (Stop m) (λ d of. (
          tt,
          record {
            managers = λ j p there. as_was d of j ∙ (changed_managers d g true (put m true d.stopped) of (put_here m true d.stopped) (λ k off. put_there m k true d.stopped off) j p (ap (manager_at j) (sym managers) ∙ there)).0;
            stopped = λ j p there. (changed_managers d g true (put m true d.stopped) of (put_here m true d.stopped) (λ k off. put_there m k true d.stopped off) j p (ap (manager_at j) (sym managers) ∙ there)).1;
            sent = of.sent ∙ sym letters;
            learned = of.learned ∙ sym views;
          },
        )) h.reached)
      where
        as_was : (d : Council) → IsCouncilOf w d → (j : ℕ) → d.manager j ≡ put m g d.manager j
        as_was d of j = ⊎_elim (λ (e : j ≡ m). ap d.manager e ∙ (of.managers m (managing g) at ∙ (sym (put_here m g d.manager) ∙ ap (put m g d.manager) (sym e)))) (λ (off : j ≢ m). sym (put_there m j g d.manager off)) (cases_eq j m)
