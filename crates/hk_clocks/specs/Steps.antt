-- What becomes of clocks: an actor starts or stops, or clocks rise. Or why they do not rise.
use Rattle.std.specs.Prelude.{ℕ, ◌+◌, ◌-◌, ◌*◌, List, [], ◌∷◌, map, max, Bool, Option, Some, None, Result, Ok, Err, nat_lt, if◌then◌else◌}
use Rattle.std.specs.List.{list_any, filter, find}
use Rattle.std.specs.BTreeMap.{insert_entry, is_at}
use Rattle.std.specs.Map.{remove_entry}
use Rattle.hk_base.specs.declared.letter.Actor.{Actor}
use Rattle.hk_clocks.specs.declared.fault.ClockFault.{ClockFault}
use Rattle.hk_clocks.specs.declared.fault.ClockFault.TheVariants.{Live, NotLive, ClockFalls, Skew}
use Rattle.hk_clocks.specs.declared.pace.Pace.{Pace}
use Rattle.hk_clocks.specs.declared.rise.Rise.{Rise}
use Rattle.hk_clocks.specs.declared.rise.Rise.TheVariants.{One, All}
use Rattle.hk_clocks.specs.Clocks.{ClockState, Paces, by_actor, pace_of, lead_over}

pub data ClockEvent : Type 0 where
  Start : (actor : Actor) → (clock : ℕ) → ClockEvent
  Stop : (actor : Actor) → ClockEvent
  Tick : (actor : Actor) → (to : ℕ) → ClockEvent
  TickAll : (to : ℕ) → ClockEvent

-- ---- what a rise makes of clocks
-- the clock of one actor becomes `to`, or those of all do
abbrev pub clock_after : Rise → Actor → ℕ → ℕ
clock_after (One a to) b clock = if is_at (by_actor a) b then to else clock
clock_after (All to) b clock = to

-- by how much the clock of an actor rises
abbrev pub elapsed : Rise → Actor × Pace → ℕ
elapsed rise p = clock_after rise p.0 p.1.clock - p.1.clock

-- What becomes of a lead where the first clock of the pair rises by `ahead` and the second by `behind`. A lead is in thousandths of a
-- millisecond: it grows by the first, and eleven tenths of the second take from it, but not below 0.
abbrev pub lead_by : (lead ahead behind : ℕ) → ℕ
lead_by lead ahead behind = (lead + 1000 * ahead) - 1100 * behind

abbrev pub lead_after : Rise → Actor × Pace → Actor × Pace → ℕ
lead_after rise p q = lead_by (lead_over p.1.leads q.0) (elapsed rise p) (elapsed rise q)

-- the leads of an actor over all live ones, of which those above 0 are kept
abbrev pub leads_after : Rise → Paces → Actor × Pace → List (Actor × ℕ)
leads_after rise paces p = filter (λ lead. nat_lt 0 lead.1) (map (λ q. (q.0, lead_after rise p q)) paces)

abbrev pub pace_after : Rise → Paces → Actor × Pace → Pace
pace_after rise paces p = record { clock = clock_after rise p.0 p.1.clock; leads = leads_after rise paces p }

abbrev pub paces_after : Rise → Paces → Paces
paces_after rise paces = map (λ p. (p.0, pace_after rise paces p)) paces

-- ---- why clocks do not rise
-- the first would run ahead of the second by more than the skew
abbrev pub runs_apart : ℕ → Rise → Actor × Pace → Actor × Pace → Bool
runs_apart skew rise p q = nat_lt (1100 * elapsed rise q + 1000 * skew) (lead_over p.1.leads q.0 + 1000 * elapsed rise p)

abbrev pub greatest_clock : ℕ → Paces → ℕ
greatest_clock low [] = low
greatest_clock low (p ∷ paces) = greatest_clock (max low p.1.clock) paces

-- they rise where none is left behind, else the clock of the first that is left behind is told
abbrev pub rises_unless : Option (Actor × Pace) → ClockState → Rise → ℕ → Result ClockState ClockFault
rises_unless None c rise to = Ok (record c { paces = paces_after rise c.paces })
rises_unless (Some q) c rise to = Err (Skew to q.1.clock)

-- of one actor: the first live one, ahead of which it would run too far
abbrev pub ticks : Option Pace → ClockState → Actor → ℕ → Result ClockState ClockFault
ticks None c a to = Err NotLive
ticks (Some pace) c a to =
    if nat_lt to pace.clock then Err (ClockFalls pace.clock)
    else rises_unless (find (runs_apart c.skew (One a to) (a, pace)) c.paces) c (One a to) to

-- of all: the first live one, ahead of which some live one would run too far
abbrev pub tick_all : ClockState → ℕ → Result ClockState ClockFault
tick_all c to =
    if nat_lt to (greatest_clock 0 c.paces) then Err (ClockFalls (greatest_clock 0 c.paces))
    else rises_unless (find (λ q. list_any (λ p. runs_apart c.skew (All to) p q) c.paces) c.paces) c (All to) to

-- ---- who is live
-- a clock that begins has no lead, and no other has one over it
abbrev pub starts : Option Pace → ClockState → Actor → ℕ → Result ClockState ClockFault
starts (Some pace) c a clock = Err Live
starts None c a clock = Ok (record c { paces = insert_entry by_actor c.paces a (record { clock = clock; leads = [] }) })

abbrev pub forgets : Actor → Actor × Pace → Actor × Pace
forgets a p = (p.0, record p.1 { leads = remove_entry (is_at (by_actor a)) p.1.leads })

abbrev pub stops : Option Pace → ClockState → Actor → Result ClockState ClockFault
stops None c a = Err NotLive
stops (Some pace) c a = Ok (record c { paces = map (forgets a) (remove_entry (is_at (by_actor a)) c.paces) })

-- ---- the table
abbrev pub clock_step : ClockState → ClockEvent → Result ClockState ClockFault
clock_step c (Start a clock) = starts (pace_of c.paces a) c a clock
clock_step c (Stop a) = stops (pace_of c.paces a) c a
clock_step c (Tick a to) = ticks (pace_of c.paces a) c a to
clock_step c (TickAll to) = tick_all c to
