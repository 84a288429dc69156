use Rattle.std.proofs.Common.{◌∙◌, sym}
use Rattle.hk_manager.specs.Steps.{idle, is_too_late}
use Rattle.hk_manager.proofs.Posts.{first_of}
use Rattle.hk_manager.proofs.manager.Manager.take_accept.Goals as goal

pub returns-then-is_too_late-clause-made : goal.returns-then-is_too_late-clause-made
returns-then-is_too_late-clause-made c = c.idle.ensures.made c.args.self.now ∙ first_of (is_too_late c.args.ballot) (idle c.args.self.now) _ (sym c.is_too_late.ensures ∙ c.if-is_too_late.true)
