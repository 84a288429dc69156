use Rattle.std.proofs.Common.{rules}
use Rattle.hk_node.proofs.Finishing.{idle_as}
use Rattle.hk_node.proofs.Installed.{installs_not}
use Rattle.hk_node.proofs.node.Node.install.Goals as goal

pub returns-then-not-installs-clause-out : goal.returns-then-not-installs-clause-out
returns-then-not-installs-clause-out c = idle_as c.idle.result c.args.self.now _ (installs_not c.args.self.now c.args.view.now (search rules)) c.idle.ensures
