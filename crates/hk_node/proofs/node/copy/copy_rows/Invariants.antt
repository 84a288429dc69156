use Rattle.std.proofs.Common.{◌≡◌, ◌++◌}
use Rattle.std.specs.List.Sorted.{IsStrictlySortedBy}
use Rattle.std.specs.Map.{keys_of}
use Rattle.hk_copy.specs.Batches.{key_cmp}
use Rattle.hk_node.proofs.node.copy.copy_rows.Given as goal

-- the rows so far and those that are left are all
abbrev pub invariant-loop-key : goal.invariant-loop-key
invariant-loop-key l =
    (goal.iterator-loop-key).can_next l.key-iterator ×
    (goal.iterator-loop-key).is_finite l.key-iterator ×
    (l.same.entries ++ l.key-iterator ≡ l.rows.entries) ×
    IsStrictlySortedBy key_cmp (keys_of l.rows.entries)
