-- What is kept goes on with a run.
use Rattle.std.proofs.Common.{◌≡◌, ℕ, Bool, true, false, ◌+◌, length, List, [], ◌∷◌, ◌++◌, ◌∙◌, sym, refl, ap, subst, inl, inr, Option, Some, None, Ok, unwrap_or}
use Rattle.std.specs.Prelude.{IsSome, is_some}
use Rattle.std.specs.Map.{keys_of}
use Rattle.std.proofs.lemmas.Bool.{false≢true}
use Rattle.hk_register.specs.Machine.{In}
use Rattle.hk_event.specs.declared.event.Event.{Event}
use Rattle.hk_event.specs.declared.event.Event.TheVariants.{Call}
use Rattle.hk_world.specs.declared.shown.Shown.{Shown}
use Rattle.hk_world.specs.World.{WorldState}
use Rattle.hk_world.specs.Steps.{Accepted, world_step}
use Rattle.hk_world.specs.Sound.{IsEvent}
use Rattle.hk_effects.specs.Projection.{Trace, traced}
use Rattle.hk_effects.specs.Runs.{IsKept, RunsKeepParts}
use Rattle.hk_safety.specs.Run.{RunState, world_of, IsRun, trace_of, with_named}
use Rattle.hk_safety.specs.Kept.{KeyState, Keys, KeptState, IsKeyOf, IsKeptOf, first_key, find_key, key_at, called_from}
use Rattle.hk_safety.specs.Noted.{IsMade, IsMadeBy}
use Rattle.hk_safety.specs.Grown.{GoesAt}
use Rattle.hk_safety.specs.Push.{with_event}
use Rattle.hk_safety.proofs.Events.{events_next}
use Rattle.hk_safety.proofs.Since.{goes_same}
use Rattle.hk_safety.proofs.Named.{called_then, named_then, named_stays, key_there, found_of, of_found}
use Rattle.hk_safety.proofs.Traces.{world_then, trace_then, trace_of_world, run_kept, run_then}
use Rattle.hk_safety.proofs.Unnamed.{unnamed_stays}

-- the event's key is named afterwards
call_named : (event : Event) (keys : List (List ℕ)) (key : List ℕ) → In (called_from (event ∷ [])) key → In (with_named event keys) key
call_named (Call id k op) keys key (inl e) = subst (λ (j : List ℕ). In (with_named (Call id k op) keys) j) (sym e) (key_there k keys)
call_named (Call id k op) keys key (inr none) = absurd none
call_named event keys key h = absurd h

-- a key that is not found has nothing
none_at : (key : List ℕ) (keys : Keys) → is_some (find_key key keys) ≡ false → key_at key keys ≡ first_key
none_at key keys none = by_found (find_key key keys) none
  where
    by_found : (o : Option KeyState) → is_some o ≡ false → unwrap_or o first_key ≡ first_key
    by_found None e = refl
    by_found (Some k) e = absurd (false≢true (sym e))

not_found : (o : Option KeyState) → (IsSome o → ⊥) → is_some o ≡ false
not_found None none = refl
not_found (Some k) none = absurd (none refl)

module _ (runs : RunsKeepParts) (n : ℕ) (old new : KeptState) (run : RunState) (event : Event) (a : Accepted) (counted : n ≡ length run.events + 1) (was : IsKeptOf old run) (ok : IsRun run)
    (event_ok : IsEvent event) (made : IsMade n old new event a) where
  pub accepts : world_step (world_of run) event ≡ Ok a
  accepts = subst (λ (w : WorldState). world_step w event ≡ Ok a) was.world made.made

  pub run_pushed : IsRun (with_event run event)
  run_pushed = run_then run event a ok event_ok accepts

  -- ---- its keys: one that is kept
  kept_at : (key : List ℕ) → IsKept key (traced key (trace_of key run) event a)
  kept_at key = subst (IsKept key) (trace_then key run event a accepts) (run_kept runs key (with_event run event) run_pushed)

  found_key : (key : List ℕ) → IsSome (find_key key new.keys) → IsKeyOf key (key_at key new.keys) (traced key (trace_of key run) event a)
  found_key key found = made.followed key found (trace_of key run) (trace_of_world key run ∙ sym was.world) (run_kept runs key run ok) (kept_at key) (was.each key)

  -- and one that is not
  unfound_key : (key : List ℕ) → is_some (find_key key new.keys) ≡ false → IsKeyOf key (key_at key new.keys) (traced key (trace_of key run) event a)
  unfound_key key none =
      let unnamed : In (with_named event (keys_of old.keys)) key → ⊥ =
      λ h. false≢true (sym none ∙ found_of new.keys key (subst (λ (l : List (List ℕ)). In l key) (sym made.keys) h)) in
      let before : is_some (find_key key old.keys) ≡ false =
      not_found (find_key key old.keys) (λ found. unnamed (named_stays event (keys_of old.keys) key (of_found old.keys key found))) in
      let nothing : IsKeyOf key first_key (trace_of key run) =
      subst (λ (k : KeyState). IsKeyOf key k (trace_of key run)) (none_at key old.keys before) (was.each key) in
      subst (λ (k : KeyState). IsKeyOf key k (traced key (trace_of key run) event a)) (sym (none_at key new.keys none))
      (unnamed_stays key (trace_of key run) event a nothing (kept_at key) (λ h. unnamed (call_named event (keys_of old.keys) key h)))

  each_key : (key : List ℕ) → IsKeyOf key (key_at key new.keys) (trace_of key (with_event run event))
  each_key key = subst (λ (t : Trace). IsKeyOf key (key_at key new.keys) t) (sym (trace_then key run event a accepts))
      (by_found (is_some (find_key key new.keys)) refl)
    where
      by_found : (b : Bool) → is_some (find_key key new.keys) ≡ b → IsKeyOf key (key_at key new.keys) (traced key (trace_of key run) event a)
      by_found true e = found_key key e
      by_found false e = unfound_key key e

  -- ---- its events
  goes_on : (key : List ℕ) (b : Bool) → is_some (find_key key new.keys) ≡ b → GoesAt (length run.events + 1) (key_at key old.keys) (key_at key new.keys)
  goes_on key true e = subst (λ (m : ℕ). GoesAt m (key_at key old.keys) (key_at key new.keys)) counted (made.goes key e)
  goes_on key false e = goes_same (length run.events + 1) (key_at key old.keys) (key_at key new.keys)
      (none_at key new.keys e ∙ sym (none_at key old.keys (not_found (find_key key old.keys) (λ found. false≢true (sym e ∙ found_of new.keys key
      (subst (λ (l : List (List ℕ)). In l key) (sym made.keys) (named_stays event (keys_of old.keys) key (of_found old.keys key found))))))))

  pub kept_pushed : IsKeptOf new (with_event run event)
  kept_pushed = record {
    world = made.world ∙ sym (world_then run event a accepts);
    calls = made.calls ∙ (ap (λ (l : List (List ℕ)). l ++ called_from (event ∷ [])) was.calls ∙ sym (called_then run event));
    keys = made.keys ∙ (ap (with_named event) was.keys ∙ sym (named_then run event));
    each = each_key;
    events = λ key. events_next run key event a accepts (run_kept runs key (with_event run event) run_pushed) (key_at key old.keys) (key_at key new.keys) (was.each key) (each_key key)
        (goes_on key (is_some (find_key key new.keys)) refl) (was.events key);
  }

-- ---- what the run's event shows
pub made_pushed : RunsKeepParts → (n : ℕ) (old new : KeptState) (run : RunState) (event : Event) (shown : Shown) → n ≡ length run.events + 1 → IsKeptOf old run → IsRun run → IsEvent event →
    IsMadeBy n (Ok shown) old new event →
    ((a : Accepted) × (world_step (world_of run) event ≡ Ok a) × (a.shown ≡ shown)) × IsRun (with_event run event) × IsKeptOf new (with_event run event)
made_pushed runs n old new run event shown counted was ok event_ok made = (
  (made.0, accepts runs n old new run event made.0 counted was ok event_ok made.2, made.1),
  run_pushed runs n old new run event made.0 counted was ok event_ok made.2,
  kept_pushed runs n old new run event made.0 counted was ok event_ok made.2,
)
