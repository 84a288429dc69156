use Rattle.std.proofs.Common.{◌∙◌}
use Rattle.hk_manager.proofs.Made.{begins_last}
use Rattle.hk_manager.proofs.manager.Manager.begin_at.Goals as goal

pub returns-then-instance-ge-MAX_ROUND-clause-made : goal.returns-then-instance-ge-MAX_ROUND-clause-made
returns-then-instance-ge-MAX_ROUND-clause-made c =
    c.idle.ensures.made c.args.self.now
    ∙ begins_last c.args.self.now c.args.epoch c.args.change c.in_ok-instance.instance c.requires.epoch c.in_ok-instance.ensures.same c.if-instance-ge-MAX_ROUND.true
