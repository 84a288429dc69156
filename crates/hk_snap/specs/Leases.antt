-- What contracts see of the keeper of a lease cell, and of one who looks at it.
use Rattle.std.specs.Prelude.{◌≡◌, ℕ, ◌+◌, ◌≤◌, max}
use Rattle.atomic_table.specs.Seated.{TableId}
use Rattle.hk_snap.specs.declared.lease_rule.Known.{Known}

-- Which cell it is; the greatest end and clock that were seen, for the keeper those that stand; and how often it has loaded, a
-- meeting counted too. The keeper's loads are not counted.
pub record Lease : Type 0 where
  pub name : TableId
  pub end : ℕ
  pub now : ℕ
  pub loads : ℕ

abbrev pub kept_lease : TableId → ℕ → ℕ → Lease
kept_lease name end now = record { name = name; end = end; now = now; loads = 0 }

abbrev pub seen_lease : TableId → Known → Lease
seen_lease name v = record { name = name; end = v.end; now = v.now; loads = v.loads }

-- after a store: neither falls
abbrev pub raised : Lease → ℕ → ℕ → Lease
raised lease end now = kept_lease lease.name (max lease.end end) (max lease.now now)

-- one load: neither is below what was seen before
pub record Looks (old new : Lease) : Type 0 where
  pub name : new.name ≡ old.name
  pub end : old.end ≤ new.end
  pub now : old.now ≤ new.now
  pub loads : new.loads ≡ old.loads + 1
