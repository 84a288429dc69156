use Rattle.std.proofs.Common.{ap}
use Rattle.hk_world.specs.World.{WorldState}
use Rattle.hk_world.proofs.Answering.{counted, uncounted}
use Rattle.hk_world.proofs.Soundness.{counted_world}
use Rattle.hk_world.proofs.world.World.count.Goals as goal

pub invariant_of-self : goal.invariant_of-self
invariant_of-self c = (c.self.invariant.0, counted_world _ c.args.next c.self.invariant.1)

pub returns-in-Ok : goal.returns-in-Ok
returns-in-Ok c = counted c.act.result c.args.self.now c.act.new.self _ c.args.next _ c.in-Ok.shown c.in-Ok.is
    (ap (λ (w : WorldState). record w { calls = c.args.next }) c.self.view_is) c.act.ensures

pub returns-in-Err : goal.returns-in-Err
returns-in-Err c = uncounted c.act.result c.args.self.now c.act.new.self c.args.next _ c.in-Err.fault c.in-Err.is c.act.ensures
