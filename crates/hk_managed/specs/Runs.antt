-- Runs of a world.
use Rattle.std.specs.Prelude.{◌≡◌, List, [], ◌∷◌, Result, Ok, Err}
use Rattle.hk_event.specs.declared.event.Event.{Event}
use Rattle.hk_event.specs.declared.refused.Refused.{Refused}
use Rattle.hk_world.specs.World.{WorldState}
use Rattle.hk_world.specs.Steps.{Accepted, world_step}
use Rattle.hk_world.specs.Sound.{IsEvent}

-- the world after an event; one that is refused changes nothing
abbrev pub after : WorldState → Result Accepted Refused → WorldState
after w (Ok a) = a.world
after w (Err refused) = w

-- accepted events, one after the other, from one world to another
abbrev pub IsRun : WorldState → List Event → WorldState → Type 0
IsRun w [] last = w ≡ last
IsRun w (event ∷ events) last = IsEvent event × (a : Accepted) × (world_step w event ≡ Ok a) × IsRun a.world events last
