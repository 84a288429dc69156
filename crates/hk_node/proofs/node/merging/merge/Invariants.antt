use Rattle.std.proofs.Common.{drop}
use Rattle.hk_node.proofs.Merged.{Merging}
use Rattle.hk_node.proofs.node.merging.merge.Given as goal

-- with the rows that were changed in their places, the items that are left make the merged rows
abbrev pub invariant-loop-item : goal.invariant-loop-item
invariant-loop-item l = Merging l.fn.items (drop l.item-index l.item-items) l.fn.rows.entries l.changes.entries
