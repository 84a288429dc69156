use Rattle.std.proofs.Common.{◌≡◌}
use Rattle.std.specs.List.{find}
use Rattle.hk_due.specs.Keys.{is_due}
use Rattle.hk_due.proofs.keys.first_due.Given as goal

-- what is left has the first one, if there is one
abbrev pub invariant-loop-key : goal.invariant-loop-key
invariant-loop-key l =
    (goal.iterator-loop-key).can_next l.key-iterator ×
    (goal.iterator-loop-key).is_finite l.key-iterator ×
    (find (is_due l.before) l.since.entries ≡ find (is_due l.before) l.key-iterator)
