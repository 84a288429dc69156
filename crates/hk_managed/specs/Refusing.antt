-- That a world refuses to let clocks rise just where they would not keep the rate.
use Rattle.std.specs.Prelude.{◌≡◌, ⊤, ℕ, suc, List, length, true, Result, Ok, Err}
use Rattle.std.specs.declared.cmp.Ordering.TheVariants.{Less}
use Rattle.std.specs.List.{AllByRecursion}
use Rattle.hk_base.specs.declared.letter.Actor.{Actor}
use Rattle.hk_clocks.specs.declared.rise.Rise.{Rise}
use Rattle.hk_clocks.specs.declared.rise.Rise.TheVariants.{One, All}
use Rattle.hk_clocks.specs.Clocks.{by_actor}
use Rattle.hk_clocks.specs.Steps.{clock_after}
use Rattle.hk_clocks.specs.Paced.{Moment, KeepRate}
use Rattle.hk_clocks.specs.Laws.{with_next}
use Rattle.hk_event.specs.declared.event.Header.{Header}
use Rattle.hk_event.specs.declared.event.Event.{Event}
use Rattle.hk_event.specs.declared.event.Event.TheVariants.{Tick, TickAll}
use Rattle.hk_event.specs.declared.refused.Refused.{Refused}
use Rattle.hk_event.specs.declared.refused.Refused.TheVariants.{Skew}
use Rattle.hk_world.specs.World.{WorldState}
use Rattle.hk_world.specs.Start.{start}
use Rattle.hk_world.specs.Steps.{Accepted, world_step}
use Rattle.hk_world.specs.Sound.{IsHeader, IsEvent}
use Rattle.hk_managed.specs.Rate.{moment_of, world_at}

-- the world once these events were tried
abbrev pub last_world : Header → List Event → WorldState
last_world h events = world_at (start h) events (length events)

-- who is live there, and what the clocks read
abbrev pub last_moment : Header → List Event → Moment
last_moment h events = moment_of (last_world h events)

abbrev pub IsLive : Header → List Event → Actor → Type 0
IsLive h events a = (last_moment h events).live a ≡ true

-- what the clocks would read behind a rise, whether or not it is refused
abbrev pub risen : Rise → Moment → Moment
risen rise m = record { live = m.live; clock = λ a. clock_after rise a (m.clock a) }

-- the pair keeps the rate over the moments of these events and that of the rise
abbrev pub KeepsWith : Header → List Event → Rise → Actor → Actor → Type 0
KeepsWith h events rise a b =
    KeepRate h.skew (with_next (λ i. moment_of (world_at (start h) events i)) (length events) (risen rise (last_moment h events))) (suc (length events)) a b

-- Some live one of those that run ahead does not keep the rate with the live actor that is left, whose clock reads `other`; and each does
-- with all live actors before that one.
pub record IsFirstLeft (h : Header) (events : List Event) (rise : Rise) (Ahead : Actor → Type 0) (other : ℕ) : Type 0 where
  pub left : Actor
  pub live : IsLive h events left
  pub reads : other ≡ (last_moment h events).clock left
  pub first : Actor
  pub runs : IsLive h events first
  pub ahead : Ahead first
  pub apart : KeepsWith h events rise first left → ⊥
  pub earlier : (a b : Actor) → Ahead a → IsLive h events a → IsLive h events b → by_actor b left ≡ Less → KeepsWith h events rise a b

-- Where a tick is made, all live ones that run ahead keep the rate with all. Where it is refused for the skew, the first that is left is
-- told. Other refusals are not for the rate.
abbrev pub IsRiseAnswer : Result Accepted Refused → Header → List Event → Rise → (Actor → Type 0) → ℕ → Type 0
IsRiseAnswer (Ok accepted) h events rise Ahead to = (a b : Actor) → Ahead a → IsLive h events a → IsLive h events b → KeepsWith h events rise a b
IsRiseAnswer (Err (Skew told other)) h events rise Ahead to = (told ≡ to) × IsFirstLeft h events rise Ahead other
IsRiseAnswer (Err refused) h events rise Ahead to = ⊤

-- a tick of one actor looks at pairs of which it is the first, a tick of all at each pair
pub record IsTold (h : Header) (events : List Event) : Type 0 where
  pub one : (a : Actor) (to : ℕ) → IsRiseAnswer (world_step (last_world h events) (Tick a to)) h events (One a to) (λ b. b ≡ a) to
  pub every : (to : ℕ) → IsRiseAnswer (world_step (last_world h events) (TickAll to)) h events (All to) (λ b. ⊤) to

-- REFUSED EXACTLY: so it is of a group whatever events were tried before, with managers or without.
abbrev pub WorldsRefuseExactly : Type 0
WorldsRefuseExactly = (h : Header) → IsHeader h → (events : List Event) → AllByRecursion IsEvent events → IsTold h events
