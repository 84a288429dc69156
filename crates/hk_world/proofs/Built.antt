-- A world with another part in place of its own is sound where that part is.
use Rattle.std.proofs.Common.{◌≡◌, ◌≢◌, ◌≤◌, ◌==◌, ℕ, List, [], length, Bool, true, false, Option, Some, ⊎_elim, refl, sym, ap, subst, ◌∙◌}
use Rattle.std.specs.List.{AllByRecursion}
use Rattle.std.specs.List.Sorted.{IsStrictlySortedBy}
use Rattle.std.specs.BTreeMap.{is_at}
use Rattle.std.specs.Map.{keys_of}
use Rattle.std.specs.Ordering.{is_eq}
use Rattle.std.proofs.lemmas.Bool.{eqb-true, eqb-false, false≢true}
use Rattle.hk_base.specs.declared.stamp.NodeId.{NodeId}
use Rattle.hk_base.specs.declared.view.View.{View}
use Rattle.hk_base.specs.declared.letter.Actor.{Actor}
use Rattle.hk_base.specs.declared.letter.Actor.TheVariants.{Node, Manager}
use Rattle.hk_base.specs.declared.letter.Letter.{Letter}
use Rattle.hk_base.specs.View.{IsView}
use Rattle.hk_base.specs.Range.{IsLetter}
use Rattle.hk_clocks.specs.Clocks.{Paces, clock_of}
use Rattle.hk_clocks.specs.Sound.{AreClocks}
use Rattle.hk_world.specs.declared.process.Process.{Process}
use Rattle.hk_world.specs.declared.process.ManagerProcess.{ManagerProcess}
use Rattle.hk_world.specs.World.{WorldState, Processes, by_number, process_at, put_process, manager_at, put_manager, node_clock, manager_clock, live_clock}
use Rattle.hk_world.specs.Sound.{IsWorld, IsProcess, IsManagerProcess, AreViews}
use Rattle.hk_world.proofs.Processes.{which, itself, put_same, put_other, sorted_put, all_put, all_map}
use Rattle.hk_world.proofs.Managing.{set_length, set_same, set_other, set_there}

-- the clocks are those of the live actors
pub record AreTied (processes : Processes) (managers : List ManagerProcess) (paces : Paces) : Type 0 where
  pub nodes : (id : NodeId) → clock_of paces (Node id) ≡ node_clock (process_at id processes)
  pub others : (m : ℕ) → clock_of paces (Manager m) ≡ manager_clock (manager_at m managers)

-- what stands in the places of the parts
pub record AreParts (w : WorldState) (processes : Processes) (managers : List ManagerProcess) (paces : Paces) (letters : List Letter) (views : List View) : Type 0 where
  pub ordered : IsStrictlySortedBy by_number (keys_of processes)
  pub each_process : AllByRecursion (IsProcess w) processes
  pub as_many : length managers ≡ length w.managers
  pub each_manager : (m : ℕ) (p : ManagerProcess) → manager_at m managers ≡ Some p → IsManagerProcess w m p
  pub clocks : AreClocks (record { skew = w.skew; paces = paces })
  pub tied : AreTied processes managers paces
  pub each_letter : AllByRecursion IsLetter letters
  pub some : 1 ≤ length views
  pub each_view : AllByRecursion IsView views
  pub are_views : managers ≡ [] → AreViews views

abbrev pub built : WorldState → Processes → List ManagerProcess → Paces → List Letter → List View → ℕ → WorldState
built w processes managers paces letters views calls = record { skew = w.skew; lease = w.lease; processes = processes; managers = managers; paces = paces; letters = letters; views = views; calls = calls }

pub built_world : (w : WorldState) (processes : Processes) (managers : List ManagerProcess) (paces : Paces) (letters : List Letter) (views : List View) (calls : ℕ) → IsWorld w → AreParts w processes managers paces letters views →
    IsWorld (built w processes managers paces letters views calls)
built_world w processes managers paces letters views calls sound parts = record {
  skew = sound.skew;
  lease = sound.lease;
  ordered = parts.ordered;
  processes = all_map (IsProcess w) (IsProcess new) process processes parts.each_process;
  few = subst (λ (n : ℕ). n ≤ 9) (sym parts.as_many) sound.few;
  managers = λ m p at. manager m p (parts.each_manager m p at);
  clocks = parts.clocks;
  paced = paced;
  letters = parts.each_letter;
  some = parts.some;
  each = parts.each_view;
  views = parts.are_views;
}
  where
    new : WorldState
    new = built w processes managers paces letters views calls

    process : (p : NodeId × Process) → IsProcess w p → IsProcess new p
    process p is = record { own = is.own; same_skew = is.same_skew; managed = is.managed ∙ sym parts.as_many; node = is.node }

    manager : (m : ℕ) (p : ManagerProcess) → IsManagerProcess w m p → IsManagerProcess new m p
    manager m p is = record { own = is.own; among = is.among ∙ sym parts.as_many; same_lease = is.same_lease; manager = is.manager }

    paced : (a : Actor) → clock_of paces a ≡ live_clock new a
    paced (Node id) = parts.tied.nodes id
    paced (Manager m) = parts.tied.others m

-- ---- what stands there
pub tied : (w : WorldState) → IsWorld w → AreTied w.processes w.managers w.paces
tied w sound = record { nodes = λ id. sound.paced (Node id); others = λ m. sound.paced (Manager m) }

same_number : (a b : NodeId) → ◌≡◌ {A = Actor} (Node a) (Node b) → a ≡ b
same_number a b e = cc

same_manager : (m k : ℕ) → ◌≡◌ {A = Actor} (Manager m) (Manager k) → m ≡ k
same_manager m k e = cc

no_manager : (id : NodeId) (m : ℕ) → ◌≡◌ {A = Actor} (Node id) (Manager m) → ⊥
no_manager id m e = cc

-- with one process put, whose clock is that actor's, and the clocks of all others as they were
pub process_tied : (w : WorldState) (id : NodeId) (p : Process) (paces : Paces) → IsWorld w → clock_of paces (Node id) ≡ node_clock (Some p) →
    ((b : Actor) → Node id ≢ b → clock_of paces b ≡ clock_of w.paces b) → AreTied (put_process id p w.processes) w.managers paces
process_tied w id p paces sound own others = record {
  nodes = λ b. ⊎_elim
      (λ (s : b ≡ id). subst (λ (k : NodeId). clock_of paces (Node k) ≡ node_clock (process_at k (put_process id p w.processes))) (sym s) (own ∙ ap node_clock (sym (put_same id p w.processes))))
      (λ (d : is_at (by_number b) id ≡ false). others (Node b) (λ e. apart b id d (same_number id b e)) ∙ sound.paced (Node b) ∙ ap node_clock (sym (put_other b id p w.processes d))) (which b id);
  others = λ m. others (Manager m) (no_manager id m) ∙ sound.paced (Manager m);
}
  where
    apart : (b id : NodeId) → is_at (by_number b) id ≡ false → id ≡ b → ⊥
    apart b id d e = at (subst (λ (k : NodeId). is_at (by_number b) k ≡ false) e d)
      where
        at : is_at (by_number b) b ≡ false → ⊥
        at h = absurd (false≢true (sym h ∙ ap is_eq (itself b)))

pub manager_tied : (w : WorldState) (m : ℕ) (old p : ManagerProcess) (paces : Paces) → IsWorld w → manager_at m w.managers ≡ Some old → clock_of paces (Manager m) ≡ manager_clock (Some p) →
    ((b : Actor) → Manager m ≢ b → clock_of paces b ≡ clock_of w.paces b) → AreTied w.processes (put_manager m p w.managers) paces
manager_tied w m old p paces sound found own others = record {
  nodes = λ id. others (Node id) (λ e. no_manager id m (sym e)) ∙ sound.paced (Node id);
  others = λ k. at k (k == m) refl;
}
  where
    at : (k : ℕ) (t : Bool) → (k == m) ≡ t → clock_of paces (Manager k) ≡ manager_clock (manager_at k (put_manager m p w.managers))
    at k true e =
        let s : k ≡ m = eqb-true k m e in
        subst (λ (n : ℕ). clock_of paces (Manager n) ≡ manager_clock (manager_at n (put_manager m p w.managers))) (sym s) (own ∙ ap manager_clock (sym (set_same m p old w.managers found)))
    at k false e =
        let d : k ≢ m = eqb-false k m e in
        others (Manager k) (λ f. d (sym (same_manager m k f))) ∙ sound.paced (Manager k) ∙ ap manager_clock (sym (set_other k m p w.managers d))

-- another process in one place
pub node_parts : (w : WorldState) (id : NodeId) (p : Process) (paces : Paces) (letters : List Letter) → IsWorld w → IsProcess w (id, p) → AreClocks (record { skew = w.skew; paces = paces }) →
    AreTied (put_process id p w.processes) w.managers paces → AllByRecursion IsLetter letters → AreParts w (put_process id p w.processes) w.managers paces letters w.views
node_parts w id p paces letters sound is clocks ties all = record {
  ordered = sorted_put id p w.processes sound.ordered;
  each_process = all_put (IsProcess w) id p w.processes sound.processes is;
  as_many = refl;
  each_manager = sound.managers;
  clocks = clocks;
  tied = ties;
  each_letter = all;
  some = sound.some;
  each_view = sound.each;
  are_views = sound.views;
}

-- another manager in one place
pub manager_parts : (w : WorldState) (m : ℕ) (old p : ManagerProcess) (paces : Paces) (letters : List Letter) (views : List View) → IsWorld w → manager_at m w.managers ≡ Some old → IsManagerProcess w m p →
    AreClocks (record { skew = w.skew; paces = paces }) → AreTied w.processes (put_manager m p w.managers) paces → AllByRecursion IsLetter letters → 1 ≤ length views → AllByRecursion IsView views →
    AreParts w w.processes (put_manager m p w.managers) paces letters views
manager_parts w m old p paces letters views sound found is clocks ties all some each = record {
  ordered = sound.ordered;
  each_process = sound.processes;
  as_many = set_length m p w.managers;
  each_manager = λ k q at. each_at k q at (k == m) refl;
  clocks = clocks;
  tied = ties;
  each_letter = all;
  some = some;
  each_view = each;
  are_views = λ none. absurd (set_there m p old w.managers found none);
}
  where
    one : (p q : ManagerProcess) → ◌≡◌ {A = Option ManagerProcess} (Some p) (Some q) → p ≡ q
    one p q e = cc

    each_at : (k : ℕ) (q : ManagerProcess) → manager_at k (put_manager m p w.managers) ≡ Some q → (t : Bool) → (k == m) ≡ t → IsManagerProcess w k q
    each_at k q at true e =
        let s : k ≡ m = eqb-true k m e in
        let there : manager_at m (put_manager m p w.managers) ≡ Some q = subst (λ (n : ℕ). manager_at n (put_manager m p w.managers) ≡ Some q) s at in
        let same : p ≡ q = one p q (sym (set_same m p old w.managers found) ∙ there) in
        subst (λ (n : ℕ). IsManagerProcess w n q) (sym s) (subst (IsManagerProcess w m) same is)
    each_at k q at false e = sound.managers k q (sym (set_other k m p w.managers (eqb-false k m e)) ∙ at)
