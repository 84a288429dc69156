-- What a push tells.
use Rattle.std.specs.Prelude.{◌≡◌, [], ◌∷◌, ◌++◌, Result, Ok, Err}
use Rattle.hk_event.specs.declared.event.Event.{Event}
use Rattle.hk_world.specs.declared.fault.WorldFault.{WorldFault}
use Rattle.hk_world.specs.declared.fault.WorldFault.TheVariants.{Memory, Refused}
use Rattle.hk_world.specs.declared.shown.Shown.{Shown}
use Rattle.hk_world.specs.Steps.{Accepted, world_step}
use Rattle.hk_safety.specs.Run.{RunState, world_of}

abbrev pub with_event : RunState → Event → RunState
with_event run event = record run { events = run.events ++ event ∷ [] }

-- What the run's world makes of the event: what it shows, and then the event is the run's last; or why it is refused. After that,
-- and after want of memory, the run is as it was.
abbrev pub IsPushed : Result Shown WorldFault → RunState → RunState → Event → Type 0
IsPushed (Ok shown) old new event = ((a : Accepted) × (world_step (world_of old) event ≡ Ok a) × (a.shown ≡ shown)) × (new ≡ with_event old event)
IsPushed (Err Memory) old new event = new ≡ old
IsPushed (Err (Refused refused)) old new event = (world_step (world_of old) event ≡ Err refused) × (new ≡ old)
