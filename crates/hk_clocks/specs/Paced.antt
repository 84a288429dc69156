-- Whether clocks keep the rate, over the moments at which they are looked at.
use Rattle.std.specs.Prelude.{◌≡◌, ◌+◌, ◌-◌, ◌*◌, ◌<◌, ◌≤◌, ℕ, suc, Bool, true, ◌&&◌, if◌then◌else◌}
use Rattle.hk_base.specs.declared.letter.Actor.{Actor}
use Rattle.hk_clocks.specs.Steps.{lead_by}

-- a moment: who is live, and what each clock reads
pub record Moment : Type 0 where
  pub live : Actor → Bool
  pub clock : Actor → ℕ

pub record AreLive (m : Moment) (a b : Actor) : Type 0 where
  pub first : m.live a ≡ true
  pub second : m.live b ≡ true

-- both were live all the time from one moment to another
abbrev pub AreLiveFrom : (ℕ → Moment) → (from to : ℕ) → Actor → Actor → Type 0
AreLiveFrom at from to a b = (j : ℕ) → from ≤ j → j ≤ to → AreLive (at j) a b

-- While both were live, the first clock went by at most eleven tenths of what the second went by, and the skew.
abbrev pub KeepRate : ℕ → (ℕ → Moment) → ℕ → Actor → Actor → Type 0
KeepRate skew at last a b = (from to : ℕ) → from ≤ to → to ≤ last → AreLiveFrom at from to a b →
    1000 * ((at to).clock a - (at from).clock a) ≤ 1100 * ((at to).clock b - (at from).clock b) + 1000 * skew

-- no clock falls while its actor is live
abbrev pub DoNotFall : (ℕ → Moment) → ℕ → Type 0
DoNotFall at last = (a : Actor) (from to : ℕ) → from ≤ to → to ≤ last → AreLiveFrom at from to a a → (at from).clock a ≤ (at to).clock a

-- PACED, over the moments from 0 to the last
pub record IsPaced (skew : ℕ) (at : ℕ → Moment) (last : ℕ) : Type 0 where
  pub rising : DoNotFall at last
  pub rate : (a b : Actor) → KeepRate skew at last a b

-- The leads at each moment: 0 from when both are live, and from then on by what the clocks of the pair rise.
pub record AreLeads (at : ℕ → Moment) (lead : ℕ → Actor → Actor → ℕ) (last : ℕ) : Type 0 where
  pub none : (a b : Actor) → lead 0 a b ≡ 0
  pub next : (i : ℕ) → i < last → (a b : Actor) → AreLive (at (suc i)) a b →
      lead (suc i) a b ≡ (if (at i).live a && (at i).live b then lead_by (lead i a b) ((at (suc i)).clock a - (at i).clock a) ((at (suc i)).clock b - (at i).clock b) else 0)
