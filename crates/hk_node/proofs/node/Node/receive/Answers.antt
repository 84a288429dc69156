use Rattle.std.proofs.Common.{sym, ◌∙◌}
use Rattle.hk_node.proofs.Finishing.{idle_as}
use Rattle.hk_node.proofs.Received.{dropped}
use Rattle.hk_node.proofs.node.Node.receive.Goals as goal

pub returns-else-admits-clause-out : goal.returns-else-admits-clause-out
returns-else-admits-clause-out c = idle_as c.idle.result c.args.self.now _
    (dropped c.args.self.now c.args.letter.now c.in-Node.from c.in-Node.is (sym c.admits.ensures ∙ c.if-admits.false)) c.idle.ensures
