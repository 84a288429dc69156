-- What all clocks keep.
use Rattle.std.specs.Prelude.{ℕ, ◌*◌, ◌≤◌, true, is_some, ◌≡◌}
use Rattle.std.specs.List.{AllByRecursion}
use Rattle.std.specs.List.Sorted.{IsStrictlySortedBy}
use Rattle.std.specs.Map.{keys_of}
use Rattle.hk_base.specs.declared.letter.Actor.{Actor}
use Rattle.hk_base.specs.declared.time.TheConstants.{MAX_TIME}
use Rattle.hk_clocks.specs.declared.pace.Pace.{Pace}
use Rattle.hk_clocks.specs.declared.rise.Rise.{Rise}
use Rattle.hk_clocks.specs.declared.rise.Rise.TheVariants.{One, All}
use Rattle.hk_clocks.specs.Clocks.{ClockState, Paces, by_actor, pace_of}

-- a lead over a live actor, above 0 and within the skew
pub record IsLead (skew : ℕ) (paces : Paces) (lead : Actor × ℕ) : Type 0 where
  pub above : 1 ≤ lead.1
  pub within : lead.1 ≤ 1000 * skew
  pub live : is_some (pace_of paces lead.0) ≡ true

-- leads within what the greatest skew allows
abbrev pub AreBounded : Actor × Pace → Type 0
AreBounded p = AllByRecursion (λ lead. lead.1 ≤ 1000 * MAX_TIME) p.1.leads

-- no clock rises past the limit
abbrev pub IsRise : Rise → Type 0
IsRise (One actor to) = to ≤ MAX_TIME
IsRise (All to) = to ≤ MAX_TIME

pub record IsPace (skew : ℕ) (paces : Paces) (p : Actor × Pace) : Type 0 where
  pub clock : p.1.clock ≤ MAX_TIME
  pub ordered : IsStrictlySortedBy by_actor (keys_of p.1.leads)
  pub leads : AllByRecursion (IsLead skew paces) p.1.leads

pub record AreClocks (c : ClockState) : Type 0 where
  pub skew : c.skew ≤ MAX_TIME
  pub ordered : IsStrictlySortedBy by_actor (keys_of c.paces)
  pub paces : AllByRecursion (IsPace c.skew c.paces) c.paces
