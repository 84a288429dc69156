-- The moment of a stamp is the first at which it is reached, and it is told just where the stamp's own update is complete.
use Rattle.std.proofs.Common.{◌≡◌, ℕ, zero, suc, Bool, true, false, cond, ◌+◌, ◌&&◌, List, [], ◌∷◌, length, ◌<◌, ◌≤◌, ◌∙◌, sym, refl, ap, subst, inl, inr, arith, get_or, take, eqb, Option, Some, None}
use Rattle.std.specs.Prelude.{nat_le}
use Rattle.std.specs.List.{position_or_len}
use Rattle.std.proofs.lemmas.Bool.{false≢true, eq-eqb, leb-true, le-leb, and_parts, and_from}
use Rattle.std.proofs.lemmas.List.Sums.{fails_before_first, passes_at_first}
use Rattle.hk_register.specs.Machine.{In, Update}
use Rattle.hk_register.specs.Facts.{Complete}
use Rattle.hk_register.specs.Printed.{is_complete}
use Rattle.hk_register.proofs.Tests.{any_in, in_any}
use Rattle.hk_event.specs.declared.event.Event.{Event}
use Rattle.hk_world.specs.Steps.{world_step}
use Rattle.hk_effects.specs.Projection.{Trace, project}
use Rattle.hk_effects.specs.Orders.{family}
use Rattle.hk_effects.specs.Runs.{start_trace}
use Rattle.hk_safety.specs.Run.{RunState, trace_with, trace_from, trace_of}
use Rattle.hk_safety.specs.Moment.{traces_after, traces, is_reached, moment, up_to, IsReached, MomentsAreFirst, is_completed, IsCompleted, moment_of, IsToldOf}
use Rattle.hk_safety.proofs.Complete.{complete_is, is_complete_from}
use Rattle.hk_safety.proofs.Events.{traces_len, complete_of}
use Rattle.hk_safety.proofs.Places.{found_within}

-- the trace at a moment is that of the run so far
pub at_moment : (key : List ℕ) (t : Trace) (events : List Event) (m : ℕ) (d : Trace) → m ≤ length events → get_or (t ∷ traces_after key t events) m d ≡ trace_from key t (take m events)
at_moment key t [] zero d l = refl
at_moment key t (x ∷ xs) zero d l = refl
at_moment key t [] (suc m) d l = absurd (omega (arith, l))
at_moment key t (x ∷ xs) (suc m) d l = at_moment key (trace_with key t x (world_step t.world x)) xs m d (omega (arith, l))

last_in : (key : List ℕ) (t : Trace) (events : List Event) → In (t ∷ traces_after key t events) (trace_from key t events)
last_in key t [] = inl refl
last_in key t (x ∷ xs) = inr (last_in key (trace_with key t x (world_step t.world x)) xs)

-- what holds in the end has a first moment within the run
pub first_within : (p : Trace → Bool) (run : RunState) (key : List ℕ) → p (trace_of key run) ≡ true → position_or_len p (traces run key) < length run.events + 1
first_within p run key e =
    let found = found_within p (traces run key) (trace_of key run) (last_in key (start_trace run.header) run.events) e in
    let long = traces_len key (start_trace run.header) run.events in
    omega (arith, found, long)

-- ---- a stamp that is reached
abbrev at_least : List ℕ → ℕ → Trace → Update → Bool
at_least key s t u = nat_le s u.stamp && is_complete (family t.world.views) (project key t) u.stamp

reached_from : (key : List ℕ) (s : ℕ) (t : Trace) → IsReached key s t → is_reached key s t ≡ true
reached_from key s t r =
    in_any (at_least key s t) t.begun r.0 r.2.0 (and_from (nat_le s r.0.stamp) _ (le-leb s r.0.stamp r.1) (is_complete_from (family t.world.views) (project key t) r.0.stamp r.2.1))

reached_is : (key : List ℕ) (s : ℕ) (t : Trace) → is_reached key s t ≡ true → IsReached key s t
reached_is key s t e =
    let u = any_in (at_least key s t) t.begun e in
    let both = and_parts (nat_le s u.0.stamp) (is_complete (family t.world.views) (project key t) u.0.stamp) u.2 in
    (u.0, leb-true s u.0.stamp both.0, (u.1, complete_is (family t.world.views) (project key t) u.0.stamp both.1))

pub moments_first : MomentsAreFirst
moments_first run key s r =
    let p : Trace → Bool = is_reached key s in
    let first : Trace = start_trace run.header in
    let n : ℕ = moment run key s in
    let within : n < length run.events + 1 = first_within p run key (reached_from key s (trace_of key run) r) in
    let long = traces_len key first run.events in
    let here : p (get_or (traces run key) n first) ≡ true = passes_at_first p (traces run key) first (omega (arith, within, long)) in
    let there : is_reached key s (trace_of key (up_to n run)) ≡ true = subst (λ (t : Trace). p t ≡ true) (at_moment key first run.events n first (omega (arith, within))) here in
    record {
      within = omega (arith, within);
      reached = reached_is key s (trace_of key (up_to n run)) there;
      first = λ m l again.
          let none = fails_before_first p (traces run key) m first l in
          let same = at_moment key first run.events m first (omega (arith, l, within)) in
          false≢true (sym none ∙ (ap p same ∙ reached_from key s (trace_of key (up_to m run)) again));
    }

-- ---- a stamp whose own update is complete
completed_from : (key : List ℕ) (s : ℕ) (t : Trace) → IsCompleted key s t → is_completed key s t ≡ true
completed_from key s t c =
    in_any (λ (u : Update). eqb u.stamp s && is_complete (family t.world.views) (project key t) u.stamp) t.begun c.0 c.2.0
    (and_from (eqb c.0.stamp s) _ (eq-eqb c.0.stamp s c.1) (is_complete_from (family t.world.views) (project key t) c.0.stamp c.2.1))

completed_is : (key : List ℕ) (s : ℕ) (t : Trace) → is_completed key s t ≡ true → IsCompleted key s t
completed_is key s t e =
    let u = complete_of key t s e in
    (u.0, u.2, (u.1, subst (Complete (family t.world.views) (project key t)) (sym u.2) u.3))

moments_told : (run : RunState) (key : List ℕ) (s : ℕ) → IsToldOf run key s (moment_of run key s)
moments_told run key s = by_test (is_completed key s (trace_of key run)) refl
  where
    by_test : (b : Bool) → is_completed key s (trace_of key run) ≡ b → IsToldOf run key s (cond b (Some (moment run key s)) None)
    by_test true e =
        let c = completed_is key s (trace_of key run) e in
        let up : s ≤ c.0.stamp = omega (arith, c.1) in
        (c, moments_first run key s (c.0, up, c.2))
    by_test false e = λ c. false≢true (sym e ∙ completed_from key s (trace_of key run) c)

pub told_means : (run : RunState) (key : List ℕ) (s : ℕ) (told : Option ℕ) → told ≡ moment_of run key s → IsToldOf run key s told
told_means run key s told same = subst (IsToldOf run key s) (sym same) (moments_told run key s)
