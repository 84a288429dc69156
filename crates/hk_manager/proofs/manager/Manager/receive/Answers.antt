use Rattle.std.proofs.Common.{◌∙◌, ◌&&◌, nat_le, sym}
use Rattle.hk_manager.specs.declared.instance.TheConstants.{MAX_EPOCH}
use Rattle.hk_manager.specs.Steps.{idle, is_addressed}
use Rattle.hk_manager.proofs.Posts.{second_of}
use Rattle.hk_manager.proofs.manager.Manager.receive.Goals as goal

pub returns-then-not-admits-clause-made : goal.returns-then-not-admits-clause-made
returns-then-not-admits-clause-made c =
    c.idle.ensures.made c.args.self.now
    ∙ second_of (is_addressed c.args.self.now c.args.letter.now.to && nat_le c.args.letter.now.epoch MAX_EPOCH) _ (idle c.args.self.now) (sym c.admits.ensures ∙ c.if-not-admits.true)
