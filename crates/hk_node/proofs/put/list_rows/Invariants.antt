use Rattle.hk_node.specs.Index.{IsGrown}
use Rattle.hk_node.proofs.Walk.{ListsUpTo}
use Rattle.hk_node.proofs.put.list_rows.Given as goal

-- each open row is listed, or left
abbrev pub invariant-loop-key : goal.invariant-loop-key
invariant-loop-key l =
    (goal.iterator-loop-key).can_next l.key-iterator ×
    (goal.iterator-loop-key).is_finite l.key-iterator ×
    ListsUpTo l.keys.keys l.rows.entries l.key-iterator ×
    IsGrown l.fn.keys.keys l.keys.keys
