-- Every run of a group with managers.
use Rattle.std.proofs.Common.{◌≡◌, ◌≤◌, ◌+◌, ℕ, zero, suc, List, [], ◌∷◌, map, Some, Ok, slice_get, refl, sym, ap, subst, ◌∙◌, arith, Bool, true, false, cond}
use Rattle.std.specs.List.{range_with_len}
use Rattle.std.proofs.lemmas.List.FromFn.{length-map-range_with_len}
use Rattle.std.specs.BTreeMap.{is_at}
use Rattle.hk_base.specs.declared.stamp.NodeId.{NodeId}
use Rattle.hk_base.specs.declared.view.View.{View}
use Rattle.hk_council.specs.Agreed.{Agreement}
use Rattle.hk_node.specs.Node.{epoch_of}
use Rattle.hk_event.specs.declared.event.Header.{Header}
use Rattle.hk_event.specs.declared.event.Event.{Event}
use Rattle.hk_world.specs.declared.process.ManagerProcess.{ManagerProcess}
use Rattle.hk_world.specs.World.{WorldState, by_number, process_at, manager_at, numbered}
use Rattle.hk_base.specs.View.{counted}
use Rattle.hk_world.specs.Start.{founding_view, founding_process, founding_manager, start}
use Rattle.hk_world.specs.Steps.{Accepted, world_step}
use Rattle.hk_world.specs.Sound.{IsHeader, IsEvent, IsWorld}
use Rattle.hk_world.specs.Laws.{StartIsSound, StepKeepsSound}
use Rattle.hk_managed.specs.Runs.{IsRun}
use Rattle.hk_managed.specs.Begun.{MayHaveBegun}
use Rattle.hk_managed.specs.Council.{WorldsAgree}
use Rattle.hk_managed.specs.Guarded.{Guarded, Earned, ViewsStay}
use Rattle.hk_managed.proofs.Agreeing.{IsCouncil}
use Rattle.hk_managed.proofs.Kept.{IsKept, event_kept}
use Rattle.hk_managed.proofs.Guarding.{kept_guarded}
use Rattle.hk_managed.proofs.Founding.{start_kept}
use Rattle.hk_managed.proofs.Staying.{grows, stays}
use Rattle.hk_managed.proofs.Convening.{HasCouncil, agreed, agrees}
use Rattle.hk_managed.proofs.Councils.{council_kept}
use Rattle.hk_managed.proofs.Viewing.{ViewIn, AllViews, views_kept}

-- ---- what every world with managers keeps
pub record IsManaged (w : WorldState) : Type 0 where
  pub kept : IsKept w
  pub council : HasCouncil w
  pub views : AllViews w.views w.processes

ranged : (a n k m : ℕ) → slice_get (range_with_len a n) k ≡ Some m → m ≡ a + k
ranged a zero k m e = absurd cc
ranged a (suc n) zero m e = let same : a ≡ m = cc in omega (arith, same)
ranged a (suc n) (suc k) m e = let h = ranged (a + 1) n k m e in omega (arith, h)

module _ (h : Header) (is : IsHeader h) (some : 1 ≤ h.managers) where
  founded : (n a k : ℕ) (p : ManagerProcess) → slice_get (map (founding_manager h) (range_with_len a n)) k ≡ Some p → p ≡ founding_manager h (a + k)
  founded zero a k p e = absurd cc
  founded (suc n) a zero p e = let same : founding_manager h a ≡ p = cc in let z : a ≡ a + 0 = omega arith in sym same ∙ ap (founding_manager h) z
  founded (suc n) a (suc k) p e = let z : a + 1 + k ≡ a + suc k = omega arith in founded n (a + 1) k p e ∙ ap (founding_manager h) z

  start_council : HasCouncil (start h)
  start_council = record {
    count = h.managers;
    many = length-map-range_with_len (founding_manager h) 0 h.managers;
    lease = h.lease;
    first = founding_view h;
    one = refl;
    reached = record {
      events = [];
      run = tt;
      holds = record {
        managers = λ m p at. sym (ap (λ (q : ManagerProcess). q.manager) (numbered_as m p at));
        stopped = λ m p at. sym (ap (λ (q : ManagerProcess). q.crashed) (numbered_as m p at));
        sent = refl;
        learned = refl;
      };
    };
  }
    where
      numbered_as : (m : ℕ) (p : ManagerProcess) → manager_at m (start h).managers ≡ Some p → p ≡ founding_manager h m
      numbered_as m p at = let z : 0 + m ≡ m = omega arith in founded h.managers 0 m p at ∙ ap (founding_manager h) z

  -- founders have the first view
  founder_views : (n : NodeId) (ids : List NodeId) → ViewIn (founding_view h ∷ []) (process_at n (map (λ id. (id, founding_process h id)) ids))
  founder_views n [] = tt
  founder_views n (id ∷ ids) = at (is_at (by_number n) id) (founder_views n ids)
    where
      first : (v : View) → Some (founding_view h) ≡ Some v → numbered v.epoch (founding_view h ∷ []) ≡ Some v
      first v is = let same : founding_view h ≡ v = cc in subst (λ (u : View). numbered u.epoch (founding_view h ∷ []) ≡ Some u) same refl

      at : (b : Bool) → ViewIn (founding_view h ∷ []) (process_at n (map (λ id. (id, founding_process h id)) ids)) → ViewIn (founding_view h ∷ []) (cond b (Some (founding_process h id)) (process_at n (map (λ id. (id, founding_process h id)) ids)))
      at true more = first
      at false more = more

  pub start_managed : IsWorld (start h) → IsManaged (start h)
  start_managed sound = record { kept = start_kept h is sound some; council = start_council; views = λ n. founder_views n (counted 0 h.nodes) }

module _ (agreement : Agreement) where
  -- EACH EVENT KEEPS IT, and takes back nothing that may have begun.
  pub event_managed : (w : WorldState) (event : Event) (a : Accepted) → IsWorld w → IsEvent event → world_step w event ≡ Ok a → IsWorld a.world → IsManaged w → IsManaged a.world
  event_managed w event a sound is e then_sound managed =
      let council : IsCouncil w = agrees agreement w managed.council in
      let then_has : HasCouncil a.world = council_kept w managed.council council managed.kept.some a event e in
      record { kept = event_kept w sound council event is a e then_sound (agrees agreement a.world then_has) managed.kept; council = then_has; views = views_kept w managed.views council managed.kept.some a event e }

  pub event_begun : (w : WorldState) (event : Event) (a : Accepted) → world_step w event ≡ Ok a → IsManaged w → (epoch : ℕ) → MayHaveBegun w epoch → MayHaveBegun a.world epoch
  event_begun w event a e managed epoch begun = stays w a.world (grows w managed.kept.some a event e) epoch begun

  -- what holds at the end of a run, if it held before
  pub record Reaches (w last : WorldState) : Type 0 where
    pub sound : IsWorld last
    pub managed : IsManaged last
    pub begun : (epoch : ℕ) → MayHaveBegun w epoch → MayHaveBegun last epoch
    pub learned : (epoch : ℕ) (view : View) → numbered epoch w.views ≡ Some view → numbered epoch last.views ≡ Some view

  module _ (starts : StartIsSound) (steps : StepKeepsSound) where
    pub reached : (w last : WorldState) → IsWorld w → IsManaged w → (events : List Event) → IsRun w events last → Reaches w last
    reached w last sound managed [] run = subst (Reaches w) run (record { sound = sound; managed = managed; begun = λ epoch b. b; learned = λ epoch view h. h })
    reached w last sound managed (event ∷ events) run =
        let a : Accepted = run.1 in
        let then_sound : IsWorld a.world = steps w event a sound run.0 run.2 in
        let r : Reaches a.world last = reached a.world last then_sound (event_managed w event a sound run.0 run.2 then_sound managed) events run.3 in
        record { sound = r.sound; managed = r.managed; begun = λ epoch b. r.begun epoch (event_begun w event a run.2 managed epoch b); learned = λ epoch view k. r.learned epoch view ((grows w managed.kept.some a event run.2).views epoch view k) }

    from_start : (h : Header) → IsHeader h → 1 ≤ h.managers → (events : List Event) (w : WorldState) → IsRun (start h) events w → Reaches (start h) w
    from_start h is some events w run = reached (start h) w (starts h is) (start_managed h is some (starts h is)) events run

    pub guarded : Guarded
    guarded h is some events w run = let r = from_start h is some events w run in kept_guarded w r.sound r.managed.kept r.managed.views

    pub earned : Earned
    earned h is some events later w last run more n x at =
        let r = from_start h is some events w run in
        let s = reached w last r.sound r.managed later more in
        (kept_guarded last s.sound s.managed.kept s.managed.views).ended (epoch_of x) (s.begun (epoch_of x) ((kept_guarded w r.sound r.managed.kept r.managed.views).begun n x at))

    pub views_stay : ViewsStay
    views_stay h is some events later w last run more n x view at is_view =
        let r = from_start h is some events w run in
        (reached w last r.sound r.managed later more).learned view.epoch view ((kept_guarded w r.sound r.managed.kept r.managed.views).learned n x view at is_view)

    pub all_agree : WorldsAgree
    all_agree h is some events w run = agreed agreement w (from_start h is some events w run).managed.council
