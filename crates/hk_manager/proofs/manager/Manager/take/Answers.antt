use Rattle.std.proofs.Common.{◌∙◌, nat_lt, sym}
use Rattle.hk_manager.specs.Steps.{idle}
use Rattle.hk_manager.proofs.Posts.{second_of}
use Rattle.hk_manager.proofs.manager.Manager.take.Goals as goal

pub returns-then-not-has_manager-clause-made : goal.returns-then-not-has_manager-clause-made
returns-then-not-has_manager-clause-made c =
    rw c.in-Manager.is (c.idle.ensures.made c.args.self.now ∙ second_of (nat_lt c.in-Manager.from c.args.self.now.managers) _ (idle c.args.self.now) (sym c.has_manager.ensures ∙ c.if-not-has_manager.true))
