use Rattle.std.proofs.Common.{rules}
use Rattle.hk_node.proofs.Finishing.{idle_as}
use Rattle.hk_node.proofs.Copied.{gives_none}
use Rattle.hk_node.proofs.node.Node.give_copy.Goals as goal

pub returns-then-not-self-clause-out : goal.returns-then-not-self-clause-out
returns-then-not-self-clause-out c = idle_as c.idle.result c.args.self.now _ (gives_none c.args.self.now c.args.to c.args.after.now c.args.room (search rules)) c.idle.ensures
