use Rattle.std.proofs.Common.{sym, subst}
use Rattle.hk_durable.specs.Batches.{AreManagers}
use Rattle.hk_durable.proofs.Sound.{with_clocks_risen}
use Rattle.hk_durable.proofs.managers.Managers.tick.Goals as goal

pub invariant_of-self : goal.invariant_of-self
invariant_of-self c =
    subst (AreManagers c.self.inside.id c.self.inside.lease) (sym c.tick_all.ensures) (with_clocks_risen c.steps_keep_managers.ensures.manager c.self.inside.id c.self.inside.lease c.args.now c.requires c.self.inside.items.items c.self.invariant)
