use Rattle.std.proofs.Common.{◌∙◌}
use Rattle.hk_manager.proofs.Posts.{dropped_from_node}
use Rattle.hk_manager.proofs.manager.Manager.take_from_node.Goals as goal

pub returns-in_default-clause-made : goal.returns-in_default-clause-made
returns-in_default-clause-made c = c.idle.ensures.made c.args.self.now ∙ dropped_from_node c.args.body.now c.args.self.now c.args.from c.in_default.not-LeaseAsk
