use Rattle.hk_node.proofs.Exact.{reports_are_exact}
use Rattle.hk_node.proofs.Order.{with_itself}
use Rattle.hk_node.proofs.laws.reports_are_exact.Goals as goal

pub returns-clause-exact : goal.returns-clause-exact
returns-clause-exact c = reports_are_exact

pub returns-clause-same : goal.returns-clause-same
returns-clause-same c = with_itself
