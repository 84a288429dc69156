use Rattle.std.proofs.Common.{subst}
use Rattle.hk_locked.specs.Makes.{Stands}
use Rattle.hk_locked.proofs.locked.LockedShard.is_of.Goals as goal

pub returns-then-eq-clause-stands : goal.returns-then-eq-clause-stands
returns-then-eq-clause-stands g c = subst (Stands g.P.Places.places) c.self.view_is (record { kept = c.self.invariant; shard = c.keeps.ensures })

pub returns-else-eq-clause-stands : goal.returns-else-eq-clause-stands
returns-else-eq-clause-stands g c = subst (Stands g.P.Places.places) c.self.view_is (record { kept = c.self.invariant; shard = c.keeps.ensures })
