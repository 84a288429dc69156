-- What is asked of a run is what is kept of the key.
use Rattle.std.proofs.Common.{◌≡◌, ℕ, Bool, true, false, cond, eqb, ◌+◌, ◌^◌, ◌≤◌, refl, length, List, [], ◌∷◌, ◌++◌, map, ◌∙◌, sym, ap, subst, Option, Some, None, unwrap_or, Result, Ok, Err, IfOk, IfSome}
use Rattle.std.specs.List.Sorted.{IsStrictlySortedBy}
use Rattle.std.specs.Ordering.{nat_cmp}
use Rattle.std.specs.Map.{keys_of}
use Rattle.hk_event.specs.declared.event.Header.{Header}
use Rattle.hk_event.specs.declared.event.Event.{Event}
use Rattle.hk_world.specs.declared.shown.Shown.{Shown}
use Rattle.hk_world.specs.Sound.{IsEvent}
use Rattle.hk_world.proofs.Viewed.{sorted_nil}
use Rattle.hk_effects.specs.Runs.{RunsKeepParts}
use Rattle.hk_safety.specs.Run.{RunState, IsRun, trace_of, history, printed}
use Rattle.hk_safety.specs.Kept.{KeyState, KeptState, IsKeyOf, IsKeptOf, HasEvents, first_key, find_key, kept_order}
use Rattle.hk_safety.specs.Moment.{moment_of}
use Rattle.hk_safety.specs.Placed.{entry_placed, placed, kept_placed, at_moments, kept_moment}
use Rattle.hk_safety.proofs.Moments.{placed_whole}
use Rattle.hk_safety.proofs.Stamped.{told_past, told_kept}
use Rattle.hk_safety.specs.declared.kept.StepError.{StepError}
use Rattle.hk_safety.specs.Noted.{IsMadeBy}
use Rattle.hk_safety.proofs.Pushed.{made_pushed}
use Rattle.hk_safety.proofs.KeptOrder.{kept_is_printed}
use Rattle.hk_safety.proofs.Traces.{run_kept}

-- what is answered is equal to what else is equal to it
pub answer_is : {A E : Type 0} (r : Result A E) (x y : A) → IfOk r (λ o. o ≡ x) → x ≡ y → IfOk r (λ o. o ≡ y)
answer_is (Ok o) x y is same = is ∙ same
answer_is (Err e) x y is same = is

module _ (k : KeptState) (run : RunState) (kept : IsKeptOf k run) (key : List ℕ) where
  -- a key that is found, and one that is not
  pub found_is : (state : KeyState) → find_key key k.keys ≡ Some state → IsKeyOf key state (trace_of key run)
  found_is state found = subst (λ (o : Option KeyState). IsKeyOf key (unwrap_or o first_key) (trace_of key run)) found (kept.each key)

  pub unfound_is : find_key key k.keys ≡ None → IsKeyOf key first_key (trace_of key run)
  unfound_is none = subst (λ (o : Option KeyState). IsKeyOf key (unwrap_or o first_key) (trace_of key run)) none (kept.each key)

  pub history_found : (state : KeyState) → find_key key k.keys ≡ Some state → state.items ≡ history run key
  history_found state found = (found_is state found).items

  pub history_unfound : find_key key k.keys ≡ None → [] ≡ history run key
  history_unfound none = (unfound_is none).items

  pub order_found : RunsKeepParts → IsRun run → (state : KeyState) → find_key key k.keys ≡ Some state → IsStrictlySortedBy nat_cmp (keys_of state.stamps) →
      kept_order state ≡ printed run key
  order_found runs ok state found sorted = kept_is_printed key state (trace_of key run) (found_is state found) sorted (run_kept runs key run ok)

  pub order_unfound : RunsKeepParts → IsRun run → find_key key k.keys ≡ None → [] ≡ printed run key
  order_unfound runs ok none = kept_is_printed key first_key (trace_of key run) (unfound_is none) sorted_nil (run_kept runs key run ok)

module _ (k : KeptState) (run : RunState) (kept : IsKeptOf k run) (key : List ℕ) (runs : RunsKeepParts) (ok : IsRun run) (last : ℕ) (counted : last ≡ length run.events) where
  -- the events of its entries
  pub placed_found : (state : KeyState) → find_key key k.keys ≡ Some state → IsStrictlySortedBy nat_cmp (keys_of state.stamps) → at_moments last (kept_placed state) ≡ placed run key
  placed_found state found sorted =
      let had : HasEvents run key state = subst (λ (o : Option KeyState). HasEvents run key (unwrap_or o first_key)) found (kept.events key) in
      ap (λ (n : ℕ). at_moments n (kept_placed state)) counted
      ∙ placed_whole run key state (run_kept runs key run ok) (found_is k run kept key state found) had sorted
      ∙ ap (map (entry_placed run key)) (order_found k run kept key runs ok state found sorted)

  pub placed_unfound : find_key key k.keys ≡ None → [] ≡ placed run key
  placed_unfound none = ap (map (entry_placed run key)) (order_unfound k run kept key runs ok none)

module _ (k : KeptState) (run : RunState) (kept : IsKeptOf k run) (key : List ℕ) (runs : RunsKeepParts) (ok : IsRun run) (s : ℕ) where
  -- the moment of a stamp
  pub moment_found : (state : KeyState) → find_key key k.keys ≡ Some state → (told : Option ℕ) → told ≡ kept_moment s state → IfSome told (λ event. IsStrictlySortedBy nat_cmp (keys_of state.stamps)) →
      told ≡ moment_of run key s
  moment_found state found told same ordered =
      let had : HasEvents run key state = subst (λ (o : Option KeyState). HasEvents run key (unwrap_or o first_key)) found (kept.events key) in
      told_kept run key (run_kept runs key run ok) state (found_is k run kept key state found) had s told same ordered

  pub moment_unfound : find_key key k.keys ≡ None → None ≡ moment_of run key s
  moment_unfound none =
      let had : HasEvents run key first_key = subst (λ (o : Option KeyState). HasEvents run key (unwrap_or o first_key)) none (kept.events key) in
      told_kept run key (run_kept runs key run ok) first_key (unfound_is k run kept key none) had s None (nothing (eqb s 0)) tt
    where
      nothing : (b : Bool) → ◌≡◌ {A = Option ℕ} None (cond b None None)
      nothing true = refl
      nothing false = refl

  pub moment_past : 2 ^ 64 ≤ s → None ≡ moment_of run key s
  moment_past l = told_past run key (run_kept runs key run ok) s l

-- ---- an event that is made
pub made_then : RunsKeepParts → (n : ℕ) (old new : KeptState) (h : Header) (es es' : List Event) (event : Event) (r : Result Shown StepError) (shown : Shown) → r ≡ Ok shown → n ≡ length es + 1 →
    IsKeptOf old (record { header = h; events = es }) → IsRun (record { header = h; events = es }) → IsEvent event → IsMadeBy n r old new event → es' ≡ es ++ event ∷ [] →
    IsRun (record { header = h; events = es' }) × IsKeptOf new (record { header = h; events = es' })
made_then runs n old new h es es' event r shown is counted kept ok event_ok made last =
    let run : RunState = record { header = h; events = es } in
    let pushed = made_pushed runs n old new run event shown counted kept ok event_ok (subst (λ (q : Result Shown StepError). IsMadeBy n q old new event) is made) in
    subst (λ (l : List Event). IsRun (record { header = h; events = l }) × IsKeptOf new (record { header = h; events = l })) (sym last) (pushed.1, pushed.2)
