use Rattle.std.proofs.Common.{None, sym, ap}
use Rattle.hk_world.specs.Acting.{made_by}
use Rattle.hk_world.proofs.Answering.{answer_as}
use Rattle.hk_world.proofs.world.World.replay.Goals as goal

pub returns : goal.returns
returns c = answer_as c.act.result c.args.self.now c.act.new.self _ _ (ap (made_by c.args.self.now c.args.id None) (sym c.in_ok-event.ensures)) c.act.ensures
