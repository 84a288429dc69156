use Rattle.hk_manager.specs.Outs.{made}
use Rattle.hk_manager.proofs.Made.{promise_made}
use Rattle.hk_manager.proofs.manager.Manager.count_promise.Goals as goal

pub returns-clause-made : goal.returns-clause-made
returns-clause-made c =
    promise_made c.args.self.now c.args.proposer c.on_promise.new.self c.args.from c.args.promise
    c.epoch-epoch.result c.ballot-ballot.result c.in_ok-view.view c.accept_body-body.result c.in_ok-letters.letters (made c.put_counted.new.self c.put_counted.result)
    c.epoch-epoch.ensures c.ballot-ballot.ensures c.in_ok-view.ensures.answer c.in_ok-view.ensures.after c.accept_body-body.ensures c.in_ok-letters.ensures c.put_counted.ensures.made
