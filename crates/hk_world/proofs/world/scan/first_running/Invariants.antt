use Rattle.std.proofs.Common.{◌≡◌}
use Rattle.std.specs.List.{find}
use Rattle.hk_world.specs.Allowed.{may_run_by}
use Rattle.hk_world.proofs.world.scan.first_running.Given as goal

-- what is left has the first that may run, if there is one
abbrev pub invariant-loop-id : goal.invariant-loop-id
invariant-loop-id l =
    (goal.iterator-loop-id).can_next l.id-iterator ×
    (goal.iterator-loop-id).is_finite l.id-iterator ×
    (find (may_run_by l.skew l.given l.view) l.processes.entries ≡ find (may_run_by l.skew l.given l.view) l.id-iterator)
