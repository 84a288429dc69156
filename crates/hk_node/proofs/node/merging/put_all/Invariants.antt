use Rattle.std.proofs.Common.{length}
use Rattle.hk_node.proofs.PutRows.{Laying}
use Rattle.hk_node.proofs.node.merging.put_all.Given as goal

-- what was put so far, and what is left to put
abbrev pub invariant-loop-key : goal.invariant-loop-key
invariant-loop-key l = Laying l.fn.changes.entries l.fn.rows.entries l.changes.entries l.rows.entries l.prior.items

abbrev pub decreases-loop-key : goal.decreases-loop-key
decreases-loop-key l = length l.changes.entries
