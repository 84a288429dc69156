-- What holds of all clocks.
use Rattle.std.specs.Prelude.{◌≡◌, ◌≢◌, ◌*◌, ◌≤◌, ℕ, suc, List, [], length, true, false, Some, None, Result, Ok, Err, ⊤, nat_lt, if◌then◌else◌}
use Rattle.std.specs.declared.cmp.Ordering.TheVariants.{Less}
use Rattle.std.specs.List.{AllByRecursion}
use Rattle.std.specs.BTreeMap.{insert_entry}
use Rattle.hk_base.specs.declared.letter.Actor.{Actor}
use Rattle.hk_base.specs.declared.time.TheConstants.{MAX_TIME}
use Rattle.hk_clocks.specs.declared.pace.Pace.{Pace}
use Rattle.hk_clocks.specs.declared.rise.Rise.{Rise}
use Rattle.hk_clocks.specs.declared.rise.Rise.TheVariants.{One, All}
use Rattle.hk_clocks.specs.declared.fault.ClockFault.{ClockFault}
use Rattle.hk_clocks.specs.declared.fault.ClockFault.TheVariants.{Skew}
use Rattle.hk_clocks.specs.Clocks.{ClockState, by_actor, pace_of}
use Rattle.hk_clocks.specs.Steps.{ClockEvent, clock_after, paces_after, runs_apart, clock_step}
use Rattle.hk_clocks.specs.Steps.ClockEvent.{Stop, Tick, TickAll}
use Rattle.hk_clocks.specs.Paced.{Moment, AreLive, DoNotFall, KeepRate, IsPaced, AreLeads}
use Rattle.hk_clocks.specs.Sound.{AreClocks}
use Rattle.hk_clocks.specs.Runs.{IsEvent, no_clocks, after, clocks_at, seen}

-- leads of the pair within the skew
abbrev pub AreWithin : ℕ → (ℕ → Moment) → (ℕ → Actor → Actor → ℕ) → ℕ → Actor → Actor → Type 0
AreWithin skew at lead last a b = (i : ℕ) → i ≤ last → AreLive (at i) a b → lead i a b ≤ 1000 * skew

-- THE LEADS DECIDE, for each pair, over any moments at which no clock falls: they are within the skew exactly where the pair keeps
-- the rate.
abbrev pub LeadsDecide : Type 0
LeadsDecide = (skew : ℕ) (at : ℕ → Moment) (lead : ℕ → Actor → Actor → ℕ) (last : ℕ) → DoNotFall at last → AreLeads at lead last → (a b : Actor) →
    (AreWithin skew at lead last a b → KeepRate skew at last a b) × (KeepRate skew at last a b → AreWithin skew at lead last a b)

-- the moments of a run
abbrev pub run_at : ℕ → List ClockEvent → ℕ → Moment
run_at skew events i = seen (clocks_at (no_clocks skew) events i)

-- EVERY RUN KEEPS THE RATE: clocks begin with no live actor, and events follow, of which the refused ones change nothing.
abbrev pub RunPaced : Type 0
RunPaced = (skew : ℕ) → skew ≤ MAX_TIME → (events : List ClockEvent) → AllByRecursion IsEvent events → IsPaced skew (run_at skew events) (length events)

-- one more moment
abbrev pub with_next : (ℕ → Moment) → ℕ → Moment → ℕ → Moment
with_next at last next i = if nat_lt last i then next else at i

-- the clocks as a rise would make them, whether or not it is refused
abbrev pub risen : Rise → ClockState → ClockState
risen rise c = record c { paces = paces_after rise c.paces }

-- by which no live clock falls
abbrev pub Rises : Rise → ClockState → Type 0
Rises rise c = (a : Actor) (pace : Pace) → pace_of c.paces a ≡ Some pace → pace.clock ≤ clock_after rise a pace.clock

-- After a run, the rise would make one live clock run apart from another exactly where the pair would not keep the rate.
pub record IsExact (skew : ℕ) (events : List ClockEvent) (rise : Rise) (p q : Actor × Pace) : Type 0 where
  pub apart : runs_apart skew rise p q ≡ true → KeepRate skew (with_next (run_at skew events) (length events) (seen (risen rise (after (no_clocks skew) events)))) (suc (length events)) p.0 q.0 → ⊥
  pub kept : runs_apart skew rise p q ≡ false → KeepRate skew (with_next (run_at skew events) (length events) (seen (risen rise (after (no_clocks skew) events)))) (suc (length events)) p.0 q.0

-- REFUSED EXACTLY: so what a rise is refused for are just the pairs that would not keep the rate.
abbrev pub RefusedExactly : Type 0
RefusedExactly = (skew : ℕ) → skew ≤ MAX_TIME → (events : List ClockEvent) → AllByRecursion IsEvent events → (rise : Rise) → Rises rise (after (no_clocks skew) events) →
    (a b : Actor) (p q : Pace) → pace_of (after (no_clocks skew) events).paces a ≡ Some p → pace_of (after (no_clocks skew) events).paces b ≡ Some q →
    IsExact skew events rise (a, p) (b, q)

-- and where one actor's clock rises, no other actor runs ahead of any
abbrev pub OthersStay : Type 0
OthersStay = (skew : ℕ) → skew ≤ MAX_TIME → (events : List ClockEvent) → AllByRecursion IsEvent events → (a : Actor) (to : ℕ) →
    (b c : Actor) (p q : Pace) → a ≢ b → pace_of (after (no_clocks skew) events).paces b ≡ Some p → runs_apart skew (One a to) (b, p) (c, q) ≡ false

-- ---- so, of each tick
-- the pair keeps the rate in the run with the rise
abbrev pub KeepsWith : ℕ → List ClockEvent → Rise → Actor → Actor → Type 0
KeepsWith skew events rise a b = KeepRate skew (with_next (run_at skew events) (length events) (seen (risen rise (after (no_clocks skew) events)))) (suc (length events)) a b

abbrev pub IsLive : ℕ → List ClockEvent → Actor → Pace → Type 0
IsLive skew events a pace = pace_of (after (no_clocks skew) events).paces a ≡ Some pace

-- Some live one of those that run ahead does not keep the rate with the actor that is left, whose clock reads `other`; and each does
-- with all live actors before that.
pub record IsFirstLeft (skew : ℕ) (events : List ClockEvent) (rise : Rise) (Ahead : Actor → Type 0) (other : ℕ) : Type 0 where
  pub left : Actor
  pub pace : Pace
  pub live : IsLive skew events left pace
  pub reads : other ≡ pace.clock
  pub first : Actor
  pub ahead : Ahead first
  pub apart : KeepsWith skew events rise first left → ⊥
  pub earlier : (a b : Actor) (p q : Pace) → Ahead a → IsLive skew events a p → IsLive skew events b q → by_actor b left ≡ Less → KeepsWith skew events rise a b

-- Where it is made, all that run ahead keep the rate with all. Where it is refused for the skew, the first that is left is told.
abbrev pub IsRiseAnswer : Result ClockState ClockFault → ℕ → List ClockEvent → Rise → (Actor → Type 0) → ℕ → Type 0
IsRiseAnswer (Ok next) skew events rise Ahead to = (a b : Actor) (p q : Pace) → Ahead a → IsLive skew events a p → IsLive skew events b q → KeepsWith skew events rise a b
IsRiseAnswer (Err (Skew told other)) skew events rise Ahead to = (told ≡ to) × IsFirstLeft skew events rise Ahead other
IsRiseAnswer (Err fault) skew events rise Ahead to = ⊤

-- THE FIRST LEFT IS TOLD: a tick of one actor looks at pairs of which it is the first, a tick of all at each pair.
pub record IsTold (skew : ℕ) (events : List ClockEvent) : Type 0 where
  pub one : (a : Actor) (to : ℕ) → IsRiseAnswer (clock_step (after (no_clocks skew) events) (Tick a to)) skew events (One a to) (λ b. b ≡ a) to
  pub every : (to : ℕ) → IsRiseAnswer (clock_step (after (no_clocks skew) events) (TickAll to)) skew events (All to) (λ b. ⊤) to

abbrev pub FirstLeftTold : Type 0
FirstLeftTold = (skew : ℕ) → skew ≤ MAX_TIME → (events : List ClockEvent) → AllByRecursion IsEvent events → IsTold skew events

-- A STOP TAKES BACK A START: so whoever starts an actor as a part of something greater can give it up.
abbrev pub StopUndoesStart : Type 0
StopUndoesStart = (c : ClockState) → AreClocks c → (a : Actor) (clock : ℕ) → pace_of c.paces a ≡ None →
    clock_step (record c { paces = insert_entry by_actor c.paces a (record { clock = clock; leads = [] }) }) (Stop a) ≡ Ok c
