use Rattle.std.proofs.Common.{ap}
use Rattle.hk_node.specs.Steps.{received}
use Rattle.hk_node.proofs.Finishing.{idle_as}
use Rattle.hk_node.proofs.node.Node.take.Goals as goal

pub returns-in-LeaseAsk-clause-out : goal.returns-in-LeaseAsk-clause-out
returns-in-LeaseAsk-clause-out c = idle_as c.idle.result c.args.self.now _ (ap (λ b. received b c.args.self.now c.args.from) c.in-LeaseAsk.is) c.idle.ensures

pub returns-in-LeaseGive-clause-out : goal.returns-in-LeaseGive-clause-out
returns-in-LeaseGive-clause-out c = idle_as c.idle-in-LeaseGive.result c.args.self.now _ (ap (λ b. received b c.args.self.now c.args.from) c.in-LeaseGive.is) c.idle-in-LeaseGive.ensures

pub returns-in-Prepare-clause-out : goal.returns-in-Prepare-clause-out
returns-in-Prepare-clause-out c = idle_as c.idle-in-Prepare.result c.args.self.now _ (ap (λ b. received b c.args.self.now c.args.from) c.in-Prepare.is) c.idle-in-Prepare.ensures

pub returns-in-Promise-clause-out : goal.returns-in-Promise-clause-out
returns-in-Promise-clause-out c = idle_as c.idle-in-Promise.result c.args.self.now _ (ap (λ b. received b c.args.self.now c.args.from) c.in-Promise.is) c.idle-in-Promise.ensures

pub returns-in-Accept-clause-out : goal.returns-in-Accept-clause-out
returns-in-Accept-clause-out c = idle_as c.idle-in-Accept.result c.args.self.now _ (ap (λ b. received b c.args.self.now c.args.from) c.in-Accept.is) c.idle-in-Accept.ensures

pub returns-in-Accepted-clause-out : goal.returns-in-Accepted-clause-out
returns-in-Accepted-clause-out c = idle_as c.idle-in-Accepted.result c.args.self.now _ (ap (λ b. received b c.args.self.now c.args.from) c.in-Accepted.is) c.idle-in-Accepted.ensures

pub returns-in-Chosen-clause-out : goal.returns-in-Chosen-clause-out
returns-in-Chosen-clause-out c = idle_as c.idle-in-Chosen.result c.args.self.now _ (ap (λ b. received b c.args.self.now c.args.from) c.in-Chosen.is) c.idle-in-Chosen.ensures

pub returns-in-Activate-clause-out : goal.returns-in-Activate-clause-out
returns-in-Activate-clause-out c = idle_as c.idle-in-Activate.result c.args.self.now _ (ap (λ b. received b c.args.self.now c.args.from) c.in-Activate.is) c.idle-in-Activate.ensures
