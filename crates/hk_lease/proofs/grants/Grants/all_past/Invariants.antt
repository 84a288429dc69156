use Rattle.std.proofs.Common.{◌≡◌}
use Rattle.std.specs.List.{find}
use Rattle.hk_lease.specs.Past.{may_run}
use Rattle.hk_lease.proofs.grants.Grants.all_past.Given as goal

-- what is left has the first that may run, if there is one
abbrev pub invariant-loop-node : goal.invariant-loop-node
invariant-loop-node l =
    (goal.iterator-loop-node).can_next l.node-iterator ×
    (goal.iterator-loop-node).is_finite l.node-iterator ×
    (find (may_run l.view l.now) l.self ≡ find (may_run l.view l.now) l.node-iterator)
