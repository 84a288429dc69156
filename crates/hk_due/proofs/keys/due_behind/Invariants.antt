use Rattle.std.proofs.Common.{◌≡◌, Some}
use Rattle.std.specs.List.{find, filter}
use Rattle.hk_due.specs.Keys.{is_later, is_due}
use Rattle.hk_due.proofs.keys.due_behind.Given as goal

-- what is left has the first one, if there is one
abbrev pub invariant-loop-key : goal.invariant-loop-key
invariant-loop-key l =
    (goal.iterator-loop-key).can_next l.key-iterator ×
    (goal.iterator-loop-key).is_finite l.key-iterator ×
    (find (is_due l.before) (filter (is_later (Some l.after)) l.since.entries) ≡ find (is_due l.before) l.key-iterator)
