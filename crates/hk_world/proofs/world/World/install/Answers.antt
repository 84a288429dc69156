use Rattle.std.proofs.Common.{None, sym, ap, ◌∙◌}
use Rattle.hk_world.specs.Acting.{made_by}
use Rattle.hk_world.proofs.Answering.{answer_as}
use Rattle.hk_world.proofs.world.World.install.Goals as goal

pub returns-in_ok-event-in-Ok : goal.returns-in_ok-event-in-Ok
returns-in_ok-event-in-Ok c = answer_as c.act.result c.args.self.now c.act.new.self _ _ (c.in-Ok.ensures.ok ∙ ap (made_by c.args.self.now c.args.id None) (sym c.in_ok-event-in-Ok.ensures)) c.act.ensures
