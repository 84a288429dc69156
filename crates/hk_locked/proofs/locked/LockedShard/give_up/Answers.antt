use Rattle.std.proofs.Common.{sym, refl}
use Rattle.hk_locked.proofs.Keeping.{dropped_locked}
use Rattle.hk_locked.proofs.locked.LockedShard.give_up.Goals as goal

pub invariant_of-self : goal.invariant_of-self
invariant_of-self g c = dropped_locked _ c.self.inside.node c.self.inside.number c.self.inside.skew c.self.inside.shard c.self.inside.asks c.give_up.new.self c.self.inside.open_keys c.give_up.ensures.fewer c.self.invariant

pub returns : goal.returns
returns g c = rw (sym c.self.view_is)
    (record { node = refl; number = refl; skew = refl; shard = refl; open_keys = refl; left = c.give_up.ensures.left; others = c.give_up.ensures.others })
