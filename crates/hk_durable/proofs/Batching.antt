-- A batch is to each shard a batch of a manager that keeps a log.
use Rattle.std.proofs.Common.{◌≡◌, inl, inr, ℕ, zero, suc, ◌==◌, Bool, true, false, if◌then◌else◌, cond, List, [], ◌∷◌, ◌++◌, map, slice_set, Option, Some, None, Result, Ok, refl, sym, ap, ◌∙◌, subst, rules, append-nil, append_assoc}
use Rattle.std.specs.List.{slice_get, AllByRecursion}
use Rattle.std.proofs.lemmas.Bool.{eqb-true, eq-eqb}
use Rattle.hk_base.specs.declared.letter.Letter.{Letter}
use Rattle.hk_link.specs.declared.parcel.Parcel.{Parcel}
use Rattle.hk_log.specs.declared.entry.Entry.{Entry}
use Rattle.hk_log.specs.declared.entry.Entry.TheVariants as entry
use Rattle.hk_log.specs.Entries.{is_of_paxos}
use Rattle.hk_manager.specs.declared.event.ManagerEvent.{ManagerEvent}
use Rattle.hk_manager.specs.declared.event.ManagerEvent.TheVariants.{Propose, Receive, Activate, Tick}
use Rattle.hk_manager.specs.declared.fault.ManagerFault.{ManagerFault}
use Rattle.hk_manager.specs.Manager.{ManagerState}
use Rattle.hk_manager.specs.Steps.{ManagerStepped, manager_step, manager_ticks}
use Rattle.hk_return.specs.Log.{after, manager_or, letters_or, letters_of, logged, IsTaken, AreTaken}
use Rattle.hk_return.proofs.Replaying.{after_more, logged_more}
use Rattle.hk_durable.specs.declared.batch.Intent.{Intent}
use Rattle.hk_durable.specs.Batches.{BatchState, IsNote, with_clocks, entries_of, may_begin, event_of, IsFulfilled, IsMade, IsMadeOrNot, TakeAll, FulfilFrom}
use Rattle.hk_durable.specs.Laws.{steps_told, steps_in, letters_in, IsBatchOf, BatchesAreBatches}

module _ {A : Type 0} where
  sym_assoc : (xs ys zs : List A) → xs ++ (ys ++ zs) ≡ (xs ++ ys) ++ zs
  sym_assoc xs ys zs = sym (append_assoc xs ys zs)

  pub at_same : (xs : List A) (i : ℕ) (x y : A) → slice_get xs i ≡ Some x → slice_get (slice_set xs i y) i ≡ Some y
  at_same [] i x y there = absurd cc
  at_same (z ∷ xs) zero x y there = refl
  at_same (z ∷ xs) (suc i) x y there = at_same xs i x y there

  pub at_other : (xs : List A) (i j : ℕ) (y : A) → (i ≡ j → ⊥) → slice_get (slice_set xs i y) j ≡ slice_get xs j
  at_other [] i j y other = refl
  at_other (z ∷ xs) zero zero y other = absurd (other refl)
  at_other (z ∷ xs) zero (suc j) y other = refl
  at_other (z ∷ xs) (suc i) zero y other = refl
  at_other (z ∷ xs) (suc i) (suc j) y other = at_other xs i j y (λ same. other (ap suc same))

  pub mapped_at : {B : Type 0} (f : A → B) (xs : List A) (i : ℕ) (x : A) → slice_get xs i ≡ Some x → slice_get (map f xs) i ≡ Some (f x)
  mapped_at f [] i x there = absurd cc
  mapped_at f (z ∷ xs) zero x there = let same : z ≡ x = cc in ap (λ (y : A). Some (f y)) same
  mapped_at f (z ∷ xs) (suc i) x there = mapped_at f xs i x there

pub same_self : (n : ℕ) → (n == n) ≡ true
same_self n = eq-eqb n n refl

-- ---- a step more
letters_more : (m : ManagerState) (steps : List ManagerEvent) (event : ManagerEvent) → letters_of m (steps ++ event ∷ []) ≡ letters_of m steps ++ letters_or (manager_step (after m steps) event)
letters_more m [] event = append-nil (letters_or (manager_step m event))
letters_more m (step ∷ steps) event =
    ap (λ (l : List Letter). letters_or (manager_step m step) ++ l) (letters_more (manager_or m (manager_step m step)) steps event)
    ∙ sym_assoc (letters_or (manager_step m step)) (letters_of (manager_or m (manager_step m step)) steps) (letters_or (manager_step (after (manager_or m (manager_step m step)) steps) event))

taken_more : (m : ManagerState) (steps : List ManagerEvent) (event : ManagerEvent) → AreTaken m steps → IsTaken (manager_step (after m steps) event) → AreTaken m (steps ++ event ∷ [])
taken_more m [] event taken next = (next, tt)
taken_more m (step ∷ steps) event (first, rest) next = (first, taken_more (manager_or m (manager_step m step)) steps event rest next)

-- ---- what entries and letters tell of a shard
steps_in_more : (shard : ℕ) (entries new : List Entry) → steps_in shard (entries ++ new) ≡ steps_in shard entries ++ steps_in shard new
steps_in_more shard [] new = refl
steps_in_more shard (e ∷ entries) new = ap (λ (l : List ManagerEvent). steps_told shard e ++ l) (steps_in_more shard entries new) ∙ sym_assoc (steps_told shard e) (steps_in shard entries) (steps_in shard new)

letters_in_more : (shard : ℕ) (unsaid new : List (ℕ × List Letter)) → letters_in shard (unsaid ++ new) ≡ letters_in shard unsaid ++ letters_in shard new
letters_in_more shard [] new = refl
letters_in_more shard (u ∷ unsaid) new =
    ap (λ (l : List Letter). (if u.0 == shard then u.1 else []) ++ l) (letters_in_more shard unsaid new)
    ∙ sym_assoc (if u.0 == shard then u.1 else []) (letters_in shard unsaid) (letters_in shard new)

-- what is logged of a step tells the step at its shard, and nothing at another one
told_here : (shard : ℕ) (event : ManagerEvent) → (shard == shard) ≡ true → steps_in shard (entries_of shard event) ≡ logged (event ∷ [])
told_here shard (Propose base change) same = search (rules, same)
told_here shard (Receive letter) same = by (is_of_paxos letter.body) refl
  where
    by : (b : Bool) → is_of_paxos letter.body ≡ b → steps_in shard (entries_of shard (Receive letter)) ≡ logged (Receive letter ∷ [])
    by true equal = search (rules, same, equal)
    by false differs = search (rules, differs)
told_here shard Activate same = refl
told_here shard (Tick now) same = refl

told_elsewhere : (shard at : ℕ) (event : ManagerEvent) → (at == shard) ≡ false → steps_in shard (entries_of at event) ≡ []
told_elsewhere shard at (Propose base change) other = search (rules, other)
told_elsewhere shard at (Receive letter) other = by (is_of_paxos letter.body) refl
  where
    by : (b : Bool) → is_of_paxos letter.body ≡ b → steps_in shard (entries_of at (Receive letter)) ≡ []
    by true equal = search (rules, other, equal)
    by false differs = search (rules, differs)
told_elsewhere shard at Activate other = refl
told_elsewhere shard at (Tick now) other = refl

-- ---- a batch more
-- another shard made a step
module _ (shard at : ℕ) (event : ManagerEvent) (m : ManagerState) (steps : List ManagerEvent) (b c : BatchState) (is : IsBatchOf shard m steps b) (made : IsMade at event b c) where
  same_manager : at ≡ shard → made.step.manager ≡ after m steps
  same_manager same =
      let there : slice_get b.managers shard ≡ Some made.step.manager = ap (λ (i : ℕ). slice_get b.managers i) (sym same) ∙ made.step.there in
      let both : Some made.step.manager ≡ Some (after m steps) = sym there ∙ is.manager in
      cc

  same_step : at ≡ shard → manager_step (after m steps) event ≡ Ok made.step.stepped
  same_step same = ap (λ (x : ManagerState). manager_step x event) (sym (same_manager same)) ∙ made.step.made

  behind : at ≡ shard → after m (steps ++ event ∷ []) ≡ made.step.stepped.manager
  behind same = after_more m steps (event ∷ []) ∙ ap (λ (r : Result ManagerStepped ManagerFault). manager_or (after m steps) r) (same_step same)

  own_letters : at ≡ shard → letters_in shard ((at, made.letters) ∷ []) ≡ letters_or (manager_step (after m steps) event)
  own_letters same =
      let its : letters_in shard ((shard, made.letters) ∷ []) ≡ made.letters ++ [] = ap (λ (t : Bool). (cond t made.letters []) ++ []) (same_self shard) in
      ap (λ (i : ℕ). letters_in shard ((i, made.letters) ∷ [])) same ∙ (its ∙ (append-nil made.letters ∙ (made.step.sends ∙ ap letters_or (sym (same_step same)))))

  here : (at ≡ shard) → IsBatchOf shard m (steps ++ event ∷ []) c
  here same = record {
    taken = taken_more m steps event is.taken (subst (λ (r : Result ManagerStepped ManagerFault). IsTaken r) (sym (same_step same)) tt);
    manager = ap (λ (l : List ManagerState). slice_get l shard) made.step.after_it ∙ (ap (λ (i : ℕ). slice_get (slice_set b.managers i made.step.stepped.manager) shard) same
        ∙ (at_same b.managers shard (after m steps) made.step.stepped.manager is.manager ∙ ap (λ (x : ManagerState). Some x) (sym (behind same))));
    logs = ap (λ (l : List Entry). steps_in shard l) made.entries ∙ (steps_in_more shard b.entries (entries_of at event)
        ∙ (ap (λ (l : List ManagerEvent). l ++ steps_in shard (entries_of at event)) is.logs
        ∙ (ap (λ (l : List ManagerEvent). logged steps ++ l) (ap (λ (i : ℕ). steps_in shard (entries_of i event)) same ∙ told_here shard event (same_self shard)) ∙ sym (logged_more steps (event ∷ [])))));
    says = ap (λ (l : List (ℕ × List Letter)). letters_in shard l) made.unsaid ∙ (letters_in_more shard b.unsaid ((at, made.letters) ∷ [])
        ∙ (ap (λ (l : List Letter). l ++ letters_in shard ((at, made.letters) ∷ [])) is.says
        ∙ (ap (λ (l : List Letter). letters_of m steps ++ l) (own_letters same) ∙ sym (letters_more m steps event))));
  }

  elsewhere : (at == shard) ≡ false → IsBatchOf shard m steps c
  elsewhere other = record {
    taken = is.taken;
    manager = ap (λ (l : List ManagerState). slice_get l shard) made.step.after_it ∙ at_other b.managers at shard made.step.stepped.manager (λ same. let both : true ≡ false = sym (eq-eqb at shard same) ∙ other in absurd cc) ∙ is.manager;
    logs = ap (λ (l : List Entry). steps_in shard l) made.entries ∙ steps_in_more shard b.entries (entries_of at event)
        ∙ ap (λ (l : List ManagerEvent). steps_in shard b.entries ++ l) (told_elsewhere shard at event other) ∙ append-nil (steps_in shard b.entries) ∙ is.logs;
    says = ap (λ (l : List (ℕ × List Letter)). letters_in shard l) made.unsaid ∙ letters_in_more shard b.unsaid ((at, made.letters) ∷ [])
        ∙ ap (λ (l : List Letter). letters_in shard b.unsaid ++ l) (ap (λ (t : Bool). (cond t made.letters []) ++ []) other) ∙ append-nil (letters_in shard b.unsaid) ∙ is.says;
  }

-- what the steps so far are, and of the rest whatever it is
abbrev Goes : ℕ → ManagerState → ManagerEvent → BatchState → Type 0
Goes shard m first b = (steps : List ManagerEvent) × IsBatchOf shard m (first ∷ steps) b

goes_on : (shard at : ℕ) (event : ManagerEvent) (m : ManagerState) (first : ManagerEvent) (b c : BatchState) → Goes shard m first b → IsMadeOrNot at event b c → Goes shard m first c
goes_on shard at event m first b c (steps, is) (inr same) = (steps, subst (IsBatchOf shard m (first ∷ steps)) (sym same) is)
goes_on shard at event m first b c (steps, is) (inl made) = by (at == shard) refl
  where
    by : (t : Bool) → (at == shard) ≡ t → Goes shard m first c
    by true equal = (steps ++ event ∷ [], here shard at event m (first ∷ steps) b c is made (eqb-true at shard equal))
    by false differs = (steps, elsewhere shard at event m (first ∷ steps) b c is made differs)

takes_on : (shard : ℕ) (m : ManagerState) (first : ManagerEvent) (parcels : List Parcel) (b c : BatchState) → Goes shard m first b → TakeAll parcels b c → Goes shard m first c
takes_on shard m first [] b c goes same = subst (Goes shard m first) (sym same) goes
takes_on shard m first (p ∷ parcels) b c goes (between, one, rest) = takes_on shard m first parcels between c (goes_on shard p.shard (Receive p.letter) m first b between goes one) rest

fulfilled_on : (shard at : ℕ) (event : Option ManagerEvent) (m : ManagerState) (first : ManagerEvent) (b c : BatchState) → Goes shard m first b → IsFulfilled at event b c → Goes shard m first c
fulfilled_on shard at None m first b c goes same = subst (Goes shard m first) (sym same) goes
fulfilled_on shard at (Some event) m first b c goes made = goes_on shard at event m first b c goes made

fulfils_on : (shard at : ℕ) (m : ManagerState) (first : ManagerEvent) (intents : List Intent) (b c : BatchState) → Goes shard m first b → FulfilFrom at intents b c → Goes shard m first c
fulfils_on shard at m first [] b c goes same = subst (Goes shard m first) (sym same) goes
fulfils_on shard at m first (i ∷ intents) b c goes (between, one, rest) =
    fulfils_on shard (suc at) m first intents between c (fulfilled_on shard at (event_of (may_begin (slice_get b.managers at)) i) m first b between goes one) rest

-- notes tell no step
no_steps : (shard : ℕ) (notes : List Entry) → AllByRecursion IsNote notes → steps_in shard notes ≡ []
no_steps shard [] are = refl
no_steps shard (entry.Founded founding ∷ notes) are = no_steps shard notes are.1
no_steps shard (entry.Open ∷ notes) are = no_steps shard notes are.1
no_steps shard (entry.Bound actor ticket ∷ notes) are = no_steps shard notes are.1
no_steps shard (entry.Propose at base change ∷ notes) are = absurd are.0
no_steps shard (entry.Receive at letter ∷ notes) are = absurd are.0

begins : (shard now : ℕ) (before : BatchState) (m : ManagerState) → before.unsaid ≡ [] → AllByRecursion IsNote before.entries → slice_get before.managers shard ≡ Some m → Goes shard m (Tick now) (with_clocks now before)
begins shard now before m none notes there = (
  [],
  record {
    taken = (tt, tt);
    manager = mapped_at (λ x. (manager_ticks x now).manager) before.managers shard m there;
    logs = no_steps shard before.entries notes;
    says = ap (λ (l : List (ℕ × List Letter)). letters_in shard l) none;
  },
)

pub batches : BatchesAreBatches
batches before now parcels intents took made none notes takes fulfils shard m there =
    fulfils_on shard 0 m (Tick now) intents took made
    (takes_on shard m (Tick now) parcels (with_clocks now before) took (begins shard now before m none notes there) takes)
    fulfils
