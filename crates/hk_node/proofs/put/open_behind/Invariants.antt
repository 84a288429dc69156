use Rattle.std.proofs.Common.{◌≡◌, Some}
use Rattle.std.specs.List.{find, filter}
use Rattle.hk_node.specs.Open.{is_behind}
use Rattle.hk_node.specs.Index.{is_open_at}
use Rattle.hk_node.proofs.put.open_behind.Given as goal

-- what is left has the first that is open, if there is one
abbrev pub invariant-loop-key : goal.invariant-loop-key
invariant-loop-key l =
    (goal.iterator-loop-key).can_next l.key-iterator ×
    (goal.iterator-loop-key).is_finite l.key-iterator ×
    (find (is_open_at l.rows.entries) (filter (is_behind (Some l.after)) l.keys.keys) ≡ find (is_open_at l.rows.entries) l.key-iterator)
