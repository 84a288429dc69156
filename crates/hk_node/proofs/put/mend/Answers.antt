use Rattle.std.proofs.Common.{rules}
use Rattle.hk_node.proofs.Walk.{closed_dropped}
use Rattle.hk_node.proofs.put.mend.Goals as goal

pub returns-then-whole-clause-ok : goal.returns-then-whole-clause-ok
returns-then-whole-clause-ok c = closed_dropped c.args.keys.now.keys c.drop_closed.new.keys.keys c.args.rows.now.entries c.drop_closed.ensures (c.requires (search rules))

pub returns-clause-ok : goal.returns-clause-ok
returns-clause-ok c = closed_dropped c.list_rows.new.keys.keys c.drop_closed-2.new.keys.keys c.args.rows.now.entries c.drop_closed-2.ensures c.in_ok-list_rows.ensures.listed
