use Rattle.std.proofs.Common.{rules, ◌≡◌, Err}
use Rattle.hk_init.specs.Leaving.{IsNamed, NodeLeaves}
use Rattle.hk_init.proofs.Joining.{then_ends, then_goes_on}
use Rattle.hk_init.proofs.command.left.Goals as goal

pub returns-in_err-node : goal.returns-in_err-node
returns-in_err-node g c =
    let is : c.from_residual.result ≡ Err c.in_err-node.field-0.0 = search rules in
    then_ends (IsNamed c.args.who c.args.count) (NodeLeaves c.args.count) _ _ _ _ c.in_err-node.ensures is

pub returns : goal.returns
returns g c = then_goes_on (IsNamed c.args.who c.args.count) (NodeLeaves c.args.count) _ _ _ c.in_ok-node.node _ c.in_ok-node.ensures c.leave_node.ensures
