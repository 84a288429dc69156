use Rattle.std.proofs.Common.{◌∙◌}
use Rattle.hk_manager.proofs.Posts.{dropped_from_manager}
use Rattle.hk_manager.proofs.manager.Manager.take_from_manager.Goals as goal

pub returns-in_default-clause-made : goal.returns-in_default-clause-made
returns-in_default-clause-made c =
    c.idle.ensures.made c.args.self.now
    ∙ dropped_from_manager c.args.body.now c.args.self.now c.args.epoch c.args.from c.in_default.not-Prepare c.in_default.not-Promise c.in_default.not-Accept c.in_default.not-Accepted c.in_default.not-Chosen
