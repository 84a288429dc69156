use Rattle.std.proofs.Common.{◌≡◌}
use Rattle.std.specs.Option.{option_copied}
use Rattle.std.specs.List.{find}
use Rattle.hk_node.specs.Open.{is_open_behind}
use Rattle.hk_node.proofs.node.rows.next_open.Given as goal

-- what is left has the first that is open, if there is one
abbrev pub invariant-loop-key : goal.invariant-loop-key
invariant-loop-key l =
    (goal.iterator-loop-key).can_next l.key-iterator ×
    (goal.iterator-loop-key).is_finite l.key-iterator ×
    (find (is_open_behind (option_copied l.after)) l.rows.entries ≡ find (is_open_behind (option_copied l.after)) l.key-iterator)
