use Rattle.hk_node.proofs.Decided.{turned_none, turned_some}
use Rattle.hk_node.proofs.node.step.turn_row.Goals as goal

pub returns-in-None : goal.returns-in-None
returns-in-None c = turned_none c.turn-in-None.result c.args.op.now c.args.row.now c.in-None.is c.turn-in-None.ensures

pub returns-in-Some : goal.returns-in-Some
returns-in-Some c = turned_some c.turn.result c.args.op.now c.args.row.now c.in-Some.content c.tag.result c.in-Some.is c.tag.ensures c.turn.ensures
