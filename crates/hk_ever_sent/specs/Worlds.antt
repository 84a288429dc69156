-- The letters of worlds.
use Rattle.std.specs.Prelude.{List, [], ◌∷◌, Result, Ok, Err}
use Rattle.std.specs.List.{AllByRecursion}
use Rattle.hk_event.specs.declared.event.Header.{Header}
use Rattle.hk_event.specs.declared.event.Event.{Event}
use Rattle.hk_event.specs.declared.refused.Refused.{Refused}
use Rattle.hk_world.specs.World.{WorldState}
use Rattle.hk_world.specs.Start.{start}
use Rattle.hk_world.specs.Steps.{Accepted, world_step}
use Rattle.hk_world.specs.Sound.{IsHeader, IsEvent}
use Rattle.hk_sent.specs.Sent.{IsSent}

-- the world after an event; one that is refused changes nothing
abbrev pub next_world : WorldState → Result Accepted Refused → WorldState
next_world w (Ok a) = a.world
next_world w (Err refused) = w

-- the world after these events, the first one first
abbrev pub world_after : WorldState → List Event → WorldState
world_after w [] = w
world_after w (event ∷ events) = world_after (next_world w (world_step w event)) events

-- Every letter that was ever sent in a world is as letters are sent, whatever events were tried since its start.
abbrev pub WorldsSend : Type 0
WorldsSend = (h : Header) → IsHeader h → (events : List Event) → AllByRecursion IsEvent events → AllByRecursion IsSent (world_after (start h) events).letters
