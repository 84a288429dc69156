-- Managers in a list keep what every manager keeps.
use Rattle.std.proofs.Common.{◌≡◌, ℕ, zero, suc, ◌<◌, ◌≤◌, List, [], ◌∷◌, slice_set, replicate, Some, Result, Ok, Err, IfOk, sym, ap, subst, arith}
use Rattle.std.specs.List.{AllByRecursion, slice_get}
use Rattle.hk_base.specs.declared.time.TheConstants.{MAX_TIME}
use Rattle.hk_base.specs.declared.view.View.{View}
use Rattle.hk_base.specs.declared.memory.Memory.{Memory}
use Rattle.hk_base.specs.View.{IsView}
use Rattle.hk_base.specs.Range.{IsLetter}
use Rattle.hk_manager.specs.declared.event.ManagerEvent.TheVariants.{Tick}
use Rattle.hk_manager.specs.declared.out.ManagerOut.{ManagerOut}
use Rattle.hk_manager.specs.Manager.{ManagerState}
use Rattle.hk_manager.specs.Steps.{ManagerStepped}
use Rattle.std.proofs.lemmas.List.Elements.{All-from_recursion}
use Rattle.hk_manager.specs.Sound.{IsInstance, IsManager, manager_new}
use Rattle.hk_manager.specs.Outs.{IsMadeOf}
use Rattle.hk_manager.specs.Laws.{StepKeepsManager}
use Rattle.hk_overseer.specs.Turns.{ticked}

pub new_sound : (id managers : ℕ) (view : View) (lease : ℕ) → managers ≤ 9 → id < managers → IsView view → lease ≤ MAX_TIME → IsManager (manager_new id managers view lease)
new_sound id managers view lease few number held within = record {
  few = few;
  number = number;
  lease = within;
  held = held;
  clock_runs = omega arith;
  clock = omega arith;
  instances = All-from_recursion IsInstance [] tt;
  proposal = tt;
}

pub all_sound : (m : ManagerState) (n : ℕ) → IsManager m → AllByRecursion IsManager (replicate n m)
all_sound m zero is = tt
all_sound m (suc n) is = (is, all_sound m n is)

pub sound_at : (ms : List ManagerState) (i : ℕ) (m : ManagerState) → AllByRecursion IsManager ms → slice_get ms i ≡ Some m → IsManager m
sound_at [] i m all at = absurd cc
sound_at (x ∷ ms) zero m all at = let same : x ≡ m = cc in subst IsManager same all.0
sound_at (x ∷ ms) (suc i) m all at = sound_at ms i m all.1 at

pub sound_set : (ms : List ManagerState) (i : ℕ) (m : ManagerState) → AllByRecursion IsManager ms → IsManager m → AllByRecursion IsManager (slice_set ms i m)
sound_set [] i m all is = tt
sound_set (x ∷ ms) zero m all is = (is, all.1)
sound_set (x ∷ ms) (suc i) m all is = (all.0, sound_set ms i m all.1 is)

pub sound_ticked : StepKeepsManager → (now : ℕ) → now ≤ MAX_TIME → (ms : List ManagerState) → AllByRecursion IsManager ms → AllByRecursion IsManager (ticked now ms)
sound_ticked law now within [] all = tt
sound_ticked law now within (m ∷ ms) all = (law m (Tick now) all.0 within, sound_ticked law now within ms all.1)

-- what a step made is sound, and so are its letters
pub made_sound : (r : Result ManagerOut Memory) (old new : ManagerState) (s : ManagerStepped) → IsManager old → IsManager s.manager → IsMadeOf r old new s → IsManager new
made_sound (Ok out) old new s was is made = subst IsManager (ap (λ (t : ManagerStepped). t.manager) (sym made)) is
made_sound (Err e) old new s was is made = subst IsManager (sym made) was

pub made_in_range : (r : Result ManagerOut Memory) (old new : ManagerState) (s : ManagerStepped) → AllByRecursion IsLetter s.letters → IsMadeOf r old new s → IfOk r (λ out. AllByRecursion IsLetter out.letters)
made_in_range (Ok out) old new s all made = subst (AllByRecursion IsLetter) (ap (λ (t : ManagerStepped). t.letters) (sym made)) all
made_in_range (Err e) old new s all made = tt
