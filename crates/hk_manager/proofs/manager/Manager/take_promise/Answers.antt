use Rattle.std.proofs.Common.{◌∙◌, sym}
use Rattle.hk_manager.proofs.manager.Manager.take_promise.Goals as goal

pub returns-in-None-clause-made : goal.returns-in-None-clause-made
returns-in-None-clause-made c = rw (sym c.in_ok-proposer.ensures.same ∙ c.in-None.is) (c.idle.ensures.made c.args.self.now)
