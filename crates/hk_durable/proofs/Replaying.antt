-- Replay is the return.
use Rattle.std.proofs.Common.{◌≡◌, ℕ, ◌==◌, Bool, true, false, cond, List, [], ◌∷◌, ◌++◌, map, slice_set, Option, Some, None, Result, Ok, Err, OnOk, refl, sym, ap, ◌∙◌, subst}
use Rattle.std.specs.List.{slice_get}
use Rattle.std.proofs.lemmas.Bool.{eqb-true, eq-eqb}
use Rattle.hk_log.specs.declared.entry.Entry.{Entry}
use Rattle.hk_log.specs.declared.entry.Entry.TheVariants as entry
use Rattle.hk_manager.specs.declared.event.ManagerEvent.{ManagerEvent}
use Rattle.hk_manager.specs.declared.event.ManagerEvent.TheVariants.{Propose, Receive}
use Rattle.hk_manager.specs.Manager.{ManagerState}
use Rattle.hk_manager.specs.declared.fault.ManagerFault.{ManagerFault}
use Rattle.hk_manager.specs.declared.fault.ManagerFault.TheVariants.{Memory, Behind, NoSuchMember, LastMember, Full, NoNumbers, NotPast}
use Rattle.hk_manager.specs.declared.out.ManagerOut.{ManagerOut}
use Rattle.hk_manager.specs.Outs.{made, IsStepOf}
use Rattle.hk_manager.specs.Steps.{ManagerStepped, manager_step}
use Rattle.hk_base.specs.declared.stamp.NodeId.{NodeId}
use Rattle.hk_return.specs.Log.{after, ask_of, manager_or, returned, NotedByAsks}
use Rattle.hk_durable.specs.Laws.{steps_in}
use Rattle.hk_durable.specs.Replays.{noted, TakesAsks, manager_of, anew, with_manager, anew_by, anew_at, taken_up, up_to_fault, all_taken_up, IsAnswered, ReplayIsReturn}
use Rattle.hk_durable.proofs.Batching.{at_same, at_other, mapped_at}

-- a step that was made gives the manager that it leaves
manager_is : (m new : ManagerState) (r : Result ManagerStepped ManagerFault) → manager_of r ≡ Ok new → manager_or m r ≡ new
manager_is m new (Ok stepped) is = cc
manager_is m new (Err fault) is = absurd cc

-- what is shown of the rest, behind an entry of this shard or of another one
module _ (shard at : ℕ) (event : ManagerEvent) (rest : List Entry) (m : ManagerState) (before after : List ManagerState) (there : slice_get before shard ≡ Some m)
    (shows : (between : List ManagerState) → all_taken_up rest between ≡ Ok after → (n : ManagerState) → slice_get between shard ≡ Some n → slice_get (map noted after) shard ≡ Some (returned n (steps_in shard rest))) where
  abbrev Shown : Type 0
  Shown = slice_get (map noted after) shard ≡ Some (returned m ((cond (at == shard) (event ∷ []) []) ++ steps_in shard rest))

  -- the manager of the entry's shard made its step
  module _ (own left : ManagerState) (is : slice_get before at ≡ Some own) (step : anew own event ≡ Ok left) (goes : all_taken_up rest (slice_set before at left) ≡ Ok after) where
    here : at ≡ shard → slice_get (slice_set before at left) shard ≡ Some (manager_or (noted m) (manager_step (noted m) event))
    here same =
        let found : Some own ≡ Some m = sym is ∙ (ap (λ (i : ℕ). slice_get before i) same ∙ there) in
        let own_is : own ≡ m = cc in
        let its : anew m event ≡ Ok left = ap (λ (x : ManagerState). anew x event) (sym own_is) ∙ step in
        ap (λ (i : ℕ). slice_get (slice_set before i left) shard) same
        ∙ (at_same before shard m left there ∙ ap (λ (x : ManagerState). Some x) (sym (manager_is (noted m) left (manager_step (noted m) event) its)))

    shown : Shown
    shown = by (at == shard) refl
      where
        by : (b : Bool) → (at == shard) ≡ b → slice_get (map noted after) shard ≡ Some (returned m (cond b (event ∷ []) [] ++ steps_in shard rest))
        by true equal = shows (slice_set before at left) goes (manager_or (noted m) (manager_step (noted m) event)) (here (eqb-true at shard equal))
        by false differs = shows (slice_set before at left) goes m
            (at_other before at shard left (λ same. let both : true ≡ false = sym (eq-eqb at shard same) ∙ differs in absurd cc) ∙ there)

  made_or_not : (own : ManagerState) (r : Result ManagerState ManagerFault) → slice_get before at ≡ Some own → anew own event ≡ r → up_to_fault (λ between. all_taken_up rest between) (with_manager at before r) ≡ Ok after → Shown
  made_or_not own (Ok left) is step goes = shown own left is step goes
  made_or_not own (Err fault) is step goes = absurd cc

  -- there is none, so the entry is of another shard
  nobody : slice_get before at ≡ None → all_taken_up rest before ≡ Ok after → Shown
  nobody none goes = by (at == shard) refl
    where
      by : (b : Bool) → (at == shard) ≡ b → slice_get (map noted after) shard ≡ Some (returned m (cond b (event ∷ []) [] ++ steps_in shard rest))
      by true equal = let both : None ≡ Some m = sym none ∙ (ap (λ (i : ℕ). slice_get before i) (eqb-true at shard equal) ∙ there) in absurd cc
      by false differs = shows before goes m there

  one_more : (o : Option ManagerState) → slice_get before at ≡ o → up_to_fault (λ between. all_taken_up rest between) (anew_by o at event before) ≡ Ok after → Shown
  one_more (Some own) is goes = made_or_not own (anew own event) is refl goes
  one_more None is goes = nobody is goes

pub replay_is_return : ReplayIsReturn
replay_is_return [] before after same shard m there = let is : before ≡ after = cc in mapped_at noted after shard m (subst (λ (l : List ManagerState). slice_get l shard ≡ Some m) is there)
replay_is_return (entry.Founded founding ∷ entries) before after goes shard m there = replay_is_return entries before after goes shard m there
replay_is_return (entry.Open ∷ entries) before after goes shard m there = replay_is_return entries before after goes shard m there
replay_is_return (entry.Propose at base change ∷ entries) before after goes shard m there =
    one_more shard at (Propose base change) entries m before after there (λ between rest. replay_is_return entries between after rest shard) (slice_get before at) refl goes
replay_is_return (entry.Receive at letter ∷ entries) before after goes shard m there =
    one_more shard at (Receive letter) entries m before after there (λ between rest. replay_is_return entries between after rest shard) (slice_get before at) refl goes
replay_is_return (entry.Bound actor ticket ∷ entries) before after goes shard m there = replay_is_return entries before after goes shard m there

-- ---- what calls answer
module _ (m new : ManagerState) (event : ManagerEvent) where
  -- the step of a manager that noted the until
  pub made_anew : (mid : ManagerState) (out : ManagerOut) → mid ≡ noted m → Ok (made new out) ≡ manager_step mid event → anew m event ≡ Ok new
  made_anew mid out same step = ap manager_of (ap (λ (x : ManagerState). manager_step x event) (sym same) ∙ sym step)

  refusal : (mid : ManagerState) (fault : ManagerFault) → mid ≡ noted m → Err fault ≡ manager_step mid event → anew m event ≡ Err fault
  refusal mid fault same step = ap manager_of (ap (λ (x : ManagerState). manager_step x event) (sym same) ∙ sym step)

  pub refused_anew : (mid : ManagerState) (fault : ManagerFault) → mid ≡ noted m → IsStepOf (Err fault) mid new (manager_step mid event) → IsAnswered (Err fault) (anew m event) new
  refused_anew mid Memory same step = tt
  refused_anew mid (Behind held) same step = refusal mid (Behind held) same step.0
  refused_anew mid NoSuchMember same step = refusal mid NoSuchMember same step.0
  refused_anew mid LastMember same step = refusal mid LastMember same step.0
  refused_anew mid Full same step = refusal mid Full same step.0
  refused_anew mid NoNumbers same step = refusal mid NoNumbers same step.0
  refused_anew mid (NotPast node end) same step = refusal mid (NotPast node end) same step.0

-- an answer of something is that of what is made of it, where that makes values of values and faults of the same faults
module _ {A B : Type 0} (d : Result A ManagerFault) (e : Result B ManagerFault) (a : A) (b : B) (makes : d ≡ Ok a → e ≡ Ok b) (fails : (fault : ManagerFault) → d ≡ Err fault → e ≡ Err fault) where
  pub answered : (r : Result Unit ManagerFault) → IsAnswered r d a → IsAnswered r e b
  answered (Ok done) is = makes is
  answered (Err Memory) is = tt
  answered (Err (Behind held)) is = fails (Behind held) is
  answered (Err NoSuchMember) is = fails NoSuchMember is
  answered (Err LastMember) is = fails LastMember is
  answered (Err Full) is = fails Full is
  answered (Err NoNumbers) is = fails NoNumbers is
  answered (Err (NotPast node end)) is = fails (NotPast node end) is

-- the manager of a shard
pub in_place : (r : Result Unit ManagerFault) (shard : ℕ) (event : ManagerEvent) (managers : List ManagerState) (m new : ManagerState) → slice_get managers shard ≡ Some m → IsAnswered r (anew m event) new →
    IsAnswered r (anew_at shard event managers) (slice_set managers shard new)
in_place r shard event managers m new there is =
    let at : anew_at shard event managers ≡ with_manager shard managers (anew m event) = ap (λ (o : Option ManagerState). anew_by o shard event managers) there in
    answered (anew m event) (anew_at shard event managers) new (slice_set managers shard new) (λ one. at ∙ ap (with_manager shard managers) one) (λ fault one. at ∙ ap (with_manager shard managers) one) r is

-- an entry, and the rest
module _ (entries rest : List Entry) (e : Entry) (before : List ManagerState) (at : entries ≡ e ∷ rest) where
  split : all_taken_up entries before ≡ up_to_fault (λ between. all_taken_up rest between) (taken_up e before)
  split = ap (λ (l : List Entry). all_taken_up l before) at

  pub goes_on : (r : Result Unit ManagerFault) (between after : List ManagerState) → taken_up e before ≡ Ok between → IsAnswered r (all_taken_up rest between) after → IsAnswered r (all_taken_up entries before) after
  goes_on r between after took is = subst (λ (d : Result (List ManagerState) ManagerFault). IsAnswered r d after) (sym (split ∙ ap (up_to_fault (λ between. all_taken_up rest between)) took)) is

  fails : (fault : ManagerFault) → taken_up e before ≡ Err fault → all_taken_up entries before ≡ Err fault
  fails fault is = split ∙ ap (up_to_fault (λ between. all_taken_up rest between)) is

  pub stops : (fault : ManagerFault) (after : List ManagerState) → IsAnswered (Err fault) (taken_up e before) after → IsAnswered (Err fault) (all_taken_up entries before) after
  stops Memory after is = tt
  stops (Behind held) after is = fails (Behind held) is
  stops NoSuchMember after is = fails NoSuchMember is
  stops LastMember after is = fails LastMember is
  stops Full after is = fails Full is
  stops NoNumbers after is = fails NoNumbers is
  stops (NotPast node end) after is = fails (NotPast node end) is

-- what asks make of a manager
pub asked : (addressee : ManagerState) (nodes : List NodeId) (before later : ManagerState) → TakesAsks addressee nodes before later → later ≡ after before (map (ask_of addressee) nodes)
asked addressee [] before later same = same
asked addressee (node ∷ nodes) before later takes = asked addressee nodes (manager_or before (manager_step before (ask_of addressee node))) later takes

-- so a manager notes the until for each member of the view that it holds
noted_all : NotedByAsks → (m : ManagerState) (nodes : List NodeId) (later : ManagerState) → nodes ≡ m.held.members → TakesAsks m nodes m later → later ≡ noted m
noted_all law m nodes later same takes = asked m nodes m later takes ∙ (ap (λ (l : List NodeId). after m (map (ask_of m) l)) same ∙ law m)

pub noted_where_made : {E : Type 0} → NotedByAsks → (r : Result Unit E) (m : ManagerState) (nodes : List NodeId) (later : ManagerState) → nodes ≡ m.held.members → OnOk r (TakesAsks m nodes m later) → OnOk r (later ≡ noted m)
noted_where_made law (Ok done) m nodes later same takes = noted_all law m nodes later same takes
noted_where_made law (Err fault) m nodes later same takes = tt
