-- What clocks come to by one event after the other.
use Rattle.std.specs.Prelude.{ℕ, zero, suc, List, [], ◌∷◌, Option, Some, None, Result, Ok, Err, is_some, unwrap_or, ◌≤◌, ⊤}
use Rattle.hk_base.specs.declared.letter.Actor.{Actor}
use Rattle.hk_base.specs.declared.time.TheConstants.{MAX_TIME}
use Rattle.hk_clocks.specs.declared.fault.ClockFault.{ClockFault}
use Rattle.hk_clocks.specs.declared.pace.Pace.{Pace}
use Rattle.hk_clocks.specs.Clocks.{ClockState, pace_of, clock_of, lead_over}
use Rattle.hk_clocks.specs.Steps.{ClockEvent, clock_step}
use Rattle.hk_clocks.specs.Steps.ClockEvent.{Start, Stop, Tick, TickAll}
use Rattle.hk_clocks.specs.Paced.{Moment}

-- times are within the limit
abbrev pub IsEvent : ClockEvent → Type 0
IsEvent (Start a clock) = clock ≤ MAX_TIME
IsEvent (Stop a) = ⊤
IsEvent (Tick a to) = to ≤ MAX_TIME
IsEvent (TickAll to) = to ≤ MAX_TIME

-- no actor is live yet
abbrev pub no_clocks : ℕ → ClockState
no_clocks skew = record { skew = skew; paces = [] }

-- a refused event changes nothing
abbrev pub made_or : ClockState → Result ClockState ClockFault → ClockState
made_or c (Ok next) = next
made_or c (Err fault) = c

abbrev pub after : ClockState → List ClockEvent → ClockState
after c [] = c
after c (event ∷ events) = after (made_or c (clock_step c event)) events

-- the clocks after the first events
abbrev pub clocks_at : ClockState → List ClockEvent → ℕ → ClockState
clocks_at c [] i = c
clocks_at c (event ∷ events) zero = c
clocks_at c (event ∷ events) (suc i) = clocks_at (made_or c (clock_step c event)) events i

-- what is seen of clocks
abbrev pub seen : ClockState → Moment
seen c = record { live = λ a. is_some (clock_of c.paces a); clock = λ a. unwrap_or (clock_of c.paces a) 0 }

abbrev pub leads_in : Option Pace → Actor → ℕ
leads_in None b = 0
leads_in (Some pace) b = lead_over pace.leads b

abbrev pub lead_of : ClockState → Actor → Actor → ℕ
lead_of c a b = leads_in (pace_of c.paces a) b
