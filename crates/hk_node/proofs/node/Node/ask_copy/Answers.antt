use Rattle.std.proofs.Common.{rules}
use Rattle.hk_node.proofs.Finishing.{idle_as}
use Rattle.hk_node.proofs.Copied.{asks_ready, asks_stranger}
use Rattle.hk_node.proofs.node.Node.ask_copy.Goals as goal

pub returns-then-self-clause-out : goal.returns-then-self-clause-out
returns-then-self-clause-out c = idle_as c.idle.result c.args.self.now _ (asks_ready c.args.self.now c.args.from c.args.room (search rules)) c.idle.ensures

pub returns-then-not-is_other-clause-out : goal.returns-then-not-is_other-clause-out
returns-then-not-is_other-clause-out c = idle_as c.idle-then-not-is_other.result c.args.self.now _ (asks_stranger c.args.self.now c.args.from c.args.room (search rules)) c.idle-then-not-is_other.ensures
