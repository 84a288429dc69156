-- A council that is made of other parts, manager by manager, holds what it must where one does that makes the same event.
use Rattle.std.proofs.Common.{◌≡◌, ℕ, ◌<◌, List, [], ◌∷◌, ◌++◌, Ok, sym, subst}
use Rattle.hk_base.specs.declared.view.View.{View}
use Rattle.hk_base.specs.declared.letter.Letter.{Letter}
use Rattle.hk_paxos.specs.Run.{In, put}
use Rattle.hk_manager.specs.declared.event.ManagerEvent.{ManagerEvent}
use Rattle.hk_manager.specs.Laws.{OfStep}
use Rattle.hk_manager.specs.Manager.{ManagerState}
use Rattle.hk_manager.specs.Sound.{manager_new}
use Rattle.hk_manager.specs.Steps.{ManagerStepped, manager_step}
use Rattle.hk_council.specs.Council.{Council, IsNode, WasSent, learned_with, start}
use Rattle.hk_council.proofs.Learning.{Sound, Outcome, after, outcome_sound}
use Rattle.hk_council.proofs.Handlers.{step_fine}
use Rattle.hk_council.proofs.Runs.{post_sound, start_sound}

same_function : {A B : Type 0} (f g : A → B) → ((x : A) → f x ≡ g x) → f ≡ g
same_function f g same = λ i x. same x i

module _ (managers : ℕ) where
  -- whoever stopped, and whatever list or map the managers stand in
  pub same_sound : (c d : Council) → ((n : ℕ) → c.manager n ≡ d.manager n) → c.sent ≡ d.sent → c.learned ≡ d.learned → Sound managers c → Sound managers d
  same_sound c d manager sent learned sound = again d (subst (λ (views : List View). Sound managers (record { manager = d.manager; stopped = c.stopped; sent = d.sent; learned = views })) learned
      (subst (λ (letters : List Letter). Sound managers (record { manager = d.manager; stopped = c.stopped; sent = letters; learned = c.learned })) sent
      (subst (λ (f : ℕ → ManagerState). Sound managers (record { manager = f; stopped = c.stopped; sent = c.sent; learned = c.learned })) (same_function c.manager d.manager manager) sound)))
    where
      again : (d : Council) → Sound managers (record { manager = d.manager; stopped = c.stopped; sent = d.sent; learned = d.learned }) → Sound managers d
      again d s = record { ids = s.ids; counts = s.counts; chain = s.chain; held = s.held; runs = s.runs; chosen = s.chosen; begun = s.begun }

  -- it begins with managers that hold the first view, and no letter
  pub begins : (d : Council) (lease : ℕ) (first : View) → first.epoch ≡ 1 → ((n : ℕ) → d.manager n ≡ manager_new n managers first lease) → d.sent ≡ [] → d.learned ≡ first ∷ [] → Sound managers d
  begins d lease first one manager sent learned = same_sound (start managers lease first) d (λ n. sym (manager n)) (sym sent) (sym learned) (start_sound managers lease first one)

  -- manager m makes a step
  pub steps : (c d : Council) → Sound managers c → (m : ℕ) → m < managers → (event : ManagerEvent) → WasSent c event → (stepped : ManagerStepped) → manager_step (c.manager m) event ≡ Ok stepped →
      ((n : ℕ) → d.manager n ≡ put m stepped.manager c.manager n) → d.sent ≡ c.sent ++ stepped.letters → d.learned ≡ learned_with c.learned stepped.manager.held → Sound managers d
  steps c d sound m known event was stepped made manager sent learned =
      let fine : OfStep (Outcome managers c m) (Ok stepped) = subst (OfStep (Outcome managers c m)) made (step_fine managers c sound m known event was) in
      same_sound (after managers c m stepped) d (λ n. sym (manager n)) (sym sent) (sym learned) (outcome_sound managers c sound m stepped fine)

  -- nodes send letters
  pub posts : (c d : Council) → Sound managers c → (letters : List Letter) → ((letter : Letter) → In letters letter → IsNode letter.from) →
      ((n : ℕ) → d.manager n ≡ c.manager n) → d.sent ≡ c.sent ++ letters → d.learned ≡ c.learned → Sound managers d
  posts c d sound letters nodes manager sent learned =
      same_sound (record c { sent = c.sent ++ letters }) d (λ n. sym (manager n)) (sym sent) (sym learned) (post_sound managers c sound letters nodes)
