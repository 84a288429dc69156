use Rattle.std.proofs.Common.{◌∙◌, sym}
use Rattle.hk_manager.proofs.Made.{chosen_idle}
use Rattle.hk_manager.proofs.manager.Manager.take_chosen.Goals as goal

pub returns-in-None-clause-made : goal.returns-in-None-clause-made
returns-in-None-clause-made c =
    c.idle.ensures.made c.learn.new.self ∙ chosen_idle c.args.self.now c.learn.new.self c.args.view.now c.in_ok-view.view c.in_ok-view.ensures (sym c.in-None.is ∙ c.learn.ensures.prior) c.learn.ensures.held
