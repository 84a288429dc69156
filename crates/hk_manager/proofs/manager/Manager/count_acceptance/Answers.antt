use Rattle.std.proofs.Common.{◌∙◌, sym}
use Rattle.hk_manager.specs.Outs.{made}
use Rattle.hk_manager.proofs.Made.{acceptance_made}
use Rattle.hk_manager.proofs.manager.Manager.count_acceptance.Goals as goal

pub returns-in-None-clause-made : goal.returns-in-None-clause-made
returns-in-None-clause-made c =
    acceptance_made c.args.self.now c.args.proposer c.on_accepted.new.self c.args.from c.args.ballot c.new-none.result (made c.put_counted.new.self c.put_counted.result)
    (sym c.in-None.is ∙ c.in_ok-view.ensures.answer) c.in_ok-view.ensures.after c.new-none.ensures c.put_counted.ensures.made
