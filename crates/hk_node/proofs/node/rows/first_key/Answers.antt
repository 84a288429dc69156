use Rattle.hk_node.proofs.Behind.{first_is}
use Rattle.hk_node.proofs.node.rows.first_key.Goals as goal

pub returns-in-Some : goal.returns-in-Some
returns-in-Some c = first_is c.args.rows.now.entries _ c.in-Some.ensures.first
