-- What is made again of a run.
use Rattle.std.specs.Prelude.{◌≡◌, ℕ, List, [], ◌∷◌, ◌++◌, Ok}
use Rattle.hk_history.specs.declared.event.Event.{Event as HistoryEvent}
use Rattle.hk_event.specs.declared.event.Event.{Event}
use Rattle.hk_world.specs.declared.shown.Shown.{Shown}
use Rattle.hk_world.specs.World.{WorldState}
use Rattle.hk_world.specs.Steps.{Accepted, world_step}
use Rattle.hk_safety.specs.Kept.{called_from}
use Rattle.hk_safety.specs.Shows.{event_lines}

-- the world accepts the event
abbrev pub IsAccepted : WorldState → Event → Type 0
IsAccepted world event = (a : Accepted) × (world_step world event ≡ Ok a)

-- the world made the event, which shows this
abbrev pub IsRemade : WorldState → WorldState → Event → Shown → Type 0
IsRemade old new event shown = (a : Accepted) × (world_step old event ≡ Ok a) × (a.shown ≡ shown) × (a.world ≡ new)

-- the world made the event, and what it says of the key stands behind the rest
pub record IsTakenAgain (old new : WorldState) (before after : List (List ℕ)) (said lines : List HistoryEvent) (key : List ℕ) (event : Event) : Type 0 where
  pub a : Accepted
  pub made : world_step old event ≡ Ok a
  pub world : a.world ≡ new
  pub calls : after ≡ before ++ called_from (event ∷ [])
  pub items : lines ≡ said ++ event_lines key after event a.shown
