use Rattle.std.proofs.Common.{ap, ◌∙◌, ◌+◌}
use Rattle.hk_world.specs.World.{WorldState}
use Rattle.hk_world.proofs.Answering.{answer_as, calls_is}
use Rattle.hk_world.proofs.world.World.call.Goals as goal

pub returns : goal.returns
returns c = answer_as c.count.result c.args.self.now c.count.new.self _ _
    (calls_is c.args.self.now c.args.id c.args.key.now c.args.op.now c.in-Some.next c.in_ok-event.event
    (c.in-Some.ensures.1 ∙ ap (λ (w : WorldState). w.calls + 1) c.self.view_is) c.in_ok-event.ensures) c.count.ensures
