-- The steps that a process made since its log was synced, of which another manager makes the same.
use Rattle.std.proofs.Common.{◌≡◌, List, [], ◌∷◌, ◌++◌, Bool, true, false, cond, Result, Ok, Err, refl, sym, ap, ◌∙◌, inl, inr, ⊎_elim, ◌⊎◌}
use Rattle.hk_base.specs.declared.letter.Letter.{Letter}
use Rattle.hk_paxos.specs.Run.{In}
use Rattle.hk_paxos.proofs.Quorums.{in_either, in_right}
use Rattle.hk_council.proofs.Chains.{in_left}
use Rattle.hk_manager.specs.declared.event.ManagerEvent.{ManagerEvent}
use Rattle.hk_manager.specs.declared.fault.ManagerFault.{ManagerFault}
use Rattle.hk_manager.specs.Manager.{ManagerState}
use Rattle.hk_manager.specs.Steps.{ManagerStepped, manager_step}
use Rattle.hk_return.specs.Log.{is_logged, manager_or, letters_or, after, letters_of, IsTaken, AreTaken, logged, but_times}
use Rattle.hk_return.proofs.Timeless.{logged_same, unlogged_quiet, after_same}

-- A step, of a manager that is the same as this one but for its times, and then others; each of these letters is one of the step, or of
-- the others.
pub record MakesOne (n : ManagerState) (event : ManagerEvent) (letters : List Letter) (Rest : ManagerState → List Letter → Type 0) : Type 0 where
  pub then : ManagerState
  pub same : but_times then ≡ but_times n
  pub stepped : ManagerStepped
  pub made : manager_step then event ≡ Ok stepped
  pub more : List Letter
  pub split : (letter : Letter) → In letters letter → In stepped.letters letter ⊎ In more letter
  pub rest : Rest stepped.manager more

abbrev pub Makes : ManagerState → List ManagerEvent → List Letter → Type 0
Makes n [] letters = (letter : Letter) → In letters letter → ⊥
Makes n (event ∷ steps) letters = MakesOne n event letters (λ k more. Makes k steps more)

pub makes_all : (m : ManagerState) (steps : List ManagerEvent) → AreTaken m steps → Makes m steps (letters_of m steps)
makes_all m [] taken = λ letter i. i
makes_all m (event ∷ steps) taken = by_result (manager_step m event) refl taken.0 (makes_all (manager_or m (manager_step m event)) steps taken.1)
  where
    by_result : (result : Result ManagerStepped ManagerFault) → manager_step m event ≡ result → IsTaken result → Makes (manager_or m result) steps (letters_of (manager_or m result) steps) →
        MakesOne m event (letters_or result ++ letters_of (manager_or m result) steps) (λ k more. Makes k steps more)
    by_result (Ok stepped) is taken rest = record {
      then = m;
      same = refl;
      stepped = stepped;
      made = is;
      more = letters_of stepped.manager steps;
      split = λ letter i. in_either stepped.letters (letters_of stepped.manager steps) letter i;
      rest = rest;
    }
    by_result (Err fault) is taken rest = absurd taken

pub makes_from : (m n : ManagerState) (steps : List ManagerEvent) (letters fewer : List Letter) → but_times m ≡ but_times n → ((letter : Letter) → In fewer letter → In letters letter) → Makes m steps letters → Makes n steps fewer
makes_from m n [] letters fewer e down h = λ letter i. h letter (down letter i)
makes_from m n (event ∷ steps) letters fewer e down h = record {
  then = h.then;
  same = h.same ∙ e;
  stepped = h.stepped;
  made = h.made;
  more = h.more;
  split = λ letter i. h.split letter (down letter i);
  rest = h.rest;
}

-- what the log makes of a step and what follows
pub one_more : (then n : ManagerState) (event : ManagerEvent) (steps : List ManagerEvent) (x : ManagerStepped) → but_times then ≡ but_times n → manager_step then event ≡ Ok x → but_times (after x.manager (logged steps)) ≡ but_times (after n (logged (event ∷ steps)))
one_more then n event steps x e made = ap (λ (r : Result ManagerStepped ManagerFault). but_times (after (manager_or then r) (logged steps))) (sym made) ∙ by_kind (is_logged event) refl
  where
    by_kind : (b : Bool) → is_logged event ≡ b → but_times (after (manager_or then (manager_step then event)) (logged steps)) ≡ but_times (after n (cond b (event ∷ logged steps) (logged steps)))
    by_kind true is = after_same (manager_or then (manager_step then event)) (manager_or n (manager_step n event)) steps (logged_same then n event e is)
    by_kind false un = after_same (manager_or then (manager_step then event)) n steps (unlogged_quiet then event un ∙ e)

pub makes_more : (n k : ManagerState) (xs ys : List ManagerEvent) (ls ms : List Letter) → Makes n xs ls → Makes k ys ms → but_times k ≡ but_times (after n (logged xs)) → Makes n (xs ++ ys) (ls ++ ms)
makes_more n k [] ys ls ms h g e = makes_from k n ys ms (ls ++ ms) e (λ letter i. ⊎_elim (λ (l : In ls letter). absurd (h letter l)) (λ (r : In ms letter). r) (in_either ls ms letter i)) g
makes_more n k (event ∷ xs) ys ls ms h g e = record {
  then = h.then;
  same = h.same;
  stepped = h.stepped;
  made = h.made;
  more = h.more ++ ms;
  split = λ letter i. ⊎_elim
      (λ (l : In ls letter). ⊎_elim (λ (s : In h.stepped.letters letter). inl s) (λ (m : In h.more letter). inr (in_left h.more ms letter m)) (h.split letter l))
      (λ (r : In ms letter). inr (in_right h.more ms letter r)) (in_either ls ms letter i);
  rest = makes_more h.stepped.manager k xs ys h.more ms h.rest g (e ∙ sym (one_more h.then n event xs h.stepped h.same h.made));
}

-- the first ones of the steps
pub makes_front : (n : ManagerState) (xs ys : List ManagerEvent) (letters : List Letter) → Makes n (xs ++ ys) letters → Makes n xs []
makes_front n [] ys letters h = λ letter i. i
makes_front n (event ∷ xs) ys letters h = record {
  then = h.then;
  same = h.same;
  stepped = h.stepped;
  made = h.made;
  more = [];
  split = λ letter i. absurd i;
  rest = makes_front h.stepped.manager xs ys h.more h.rest;
}
