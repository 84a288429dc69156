use Rattle.hk_node.proofs.Copied.{rise_now}
use Rattle.hk_node.proofs.node.rows.NodeRows.after.Goals as goal

pub returns-clause-rising : goal.returns-clause-rising
returns-clause-rising c = rise_now _ c.args.self.now c.self.invariant.node c.self.view_is
