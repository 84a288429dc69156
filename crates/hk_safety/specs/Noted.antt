-- What the code makes of an event.
use Rattle.std.specs.Prelude.{◌≡◌, ℕ, List, [], ◌∷◌, ◌++◌, Some, Result, Ok, Err, IsSome, ⊤}
use Rattle.std.specs.Map.{keys_of}
use Rattle.hk_base.specs.declared.call.Reply.{Reply}
use Rattle.hk_register.specs.Machine.{In}
use Rattle.hk_event.specs.declared.event.Event.{Event}
use Rattle.hk_world.specs.World.{numbered}
use Rattle.hk_world.specs.declared.shown.Shown.{Shown}
use Rattle.hk_world.specs.Steps.{Accepted, world_step}
use Rattle.hk_world.specs.Sound.{IsEvent}
use Rattle.hk_effects.specs.Own.{IsOwn}
use Rattle.hk_effects.specs.Runs.{IsKept}
use Rattle.hk_effects.specs.Projection.{Trace, traced}
use Rattle.hk_safety.specs.declared.kept.StepError.{StepError}
use Rattle.hk_safety.specs.declared.kept.StepError.TheVariants.{Memory, Refused, Lost}
use Rattle.hk_safety.specs.Run.{with_named}
use Rattle.hk_safety.specs.Kept.{KeptState, IsKeyOf, find_key, key_at, called_from}
use Rattle.hk_safety.specs.Grown.{GoesAt}

-- What must be known of what is kept before an event: each call that the event answers is one of the calls on its key, and the key of each call
-- is kept.
pub record MayMake (k : KeptState) (next : Event) : Type 0 where
  pub event : IsEvent next
  pub own : IsOwn k.world
  pub told : (a : Accepted) → world_step k.world next ≡ Ok a → (key : List ℕ) (r : Reply) → In a.told (key, r) → numbered r.call.0 (k.calls ++ called_from (next ∷ [])) ≡ Some key
  pub kept : (key : List ℕ) → In k.calls key → IsSome (find_key key k.keys)

-- What is kept of a key went on with the trace of the key.
abbrev pub HasFollowed : KeptState → KeptState → Event → Accepted → List ℕ → Type 0
HasFollowed old new event a key =
    (t : Trace) → t.world ≡ old.world → IsKept key t → IsKept key (traced key t event a) →
    IsKeyOf key (key_at key old.keys) t → IsKeyOf key (key_at key new.keys) (traced key t event a)

-- event n, which is made
pub record IsMade (n : ℕ) (old new : KeptState) (event : Event) (a : Accepted) : Type 0 where
  pub made : world_step old.world event ≡ Ok a
  pub world : new.world ≡ a.world
  pub calls : new.calls ≡ old.calls ++ called_from (event ∷ [])
  pub keys : keys_of new.keys ≡ with_named event (keys_of old.keys)
  pub followed : (key : List ℕ) → IsSome (find_key key new.keys) → HasFollowed old new event a key
  pub goes : (key : List ℕ) → IsSome (find_key key new.keys) → GoesAt n (key_at key old.keys) (key_at key new.keys)

-- An event that is made, or is refused, or for which no memory was there: then nothing has changed, unless it is lost that all that was kept
-- belongs to one run.
abbrev pub IsMadeBy : ℕ → Result Shown StepError → KeptState → KeptState → Event → Type 0
IsMadeBy n (Ok shown) old new event = (a : Accepted) × (a.shown ≡ shown) × IsMade n old new event a
IsMadeBy n (Err (Refused refused)) old new event = (world_step old.world event ≡ Err refused) × (new ≡ old)
IsMadeBy n (Err Memory) old new event = new ≡ old
IsMadeBy n (Err Lost) old new event = ⊤
