-- That the clocks of a world run apart by their rate at most.
use Rattle.std.specs.Prelude.{ℕ, zero, suc, List, [], ◌∷◌, length, is_some, unwrap_or}
use Rattle.std.specs.List.{AllByRecursion}
use Rattle.hk_clocks.specs.Paced.{Moment, IsPaced}
use Rattle.hk_event.specs.declared.event.Header.{Header}
use Rattle.hk_event.specs.declared.event.Event.{Event}
use Rattle.hk_world.specs.World.{WorldState, live_clock}
use Rattle.hk_world.specs.Start.{start}
use Rattle.hk_world.specs.Steps.{world_step}
use Rattle.hk_world.specs.Sound.{IsHeader, IsEvent}
use Rattle.hk_managed.specs.Runs.{after}

-- who is live, and what its own clock reads
abbrev pub moment_of : WorldState → Moment
moment_of w = record { live = λ a. is_some (live_clock w a); clock = λ a. unwrap_or (live_clock w a) 0 }

-- the world after the first events
abbrev pub world_at : WorldState → List Event → ℕ → WorldState
world_at w [] i = w
world_at w (event ∷ events) zero = w
world_at w (event ∷ events) (suc i) = world_at (after w (world_step w event)) events i

-- PACED: whatever events are tried, the clocks of live actors do not fall, and keep the rate.
abbrev pub WorldsKeepTheRate : Type 0
WorldsKeepTheRate = (h : Header) → IsHeader h → (events : List Event) → AllByRecursion IsEvent events → IsPaced h.skew (λ i. moment_of (world_at (start h) events i)) (length events)
