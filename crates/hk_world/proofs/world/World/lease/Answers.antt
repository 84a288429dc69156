use Rattle.hk_world.proofs.Answering.{answer_as}
use Rattle.hk_world.proofs.world.World.lease.Goals as goal

pub returns : goal.returns
returns c = answer_as c.act_by.result c.args.self.now c.act_by.new.self _ _ c.may_lease-leave.ensures c.act_by.ensures
