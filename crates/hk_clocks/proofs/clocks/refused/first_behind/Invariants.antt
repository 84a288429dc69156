use Rattle.std.proofs.Common.{◌≡◌}
use Rattle.std.specs.List.{find}
use Rattle.hk_clocks.specs.Steps.{runs_apart}
use Rattle.hk_clocks.proofs.clocks.refused.first_behind.Given as goal

-- what is left has the first that is left behind, if there is one
abbrev pub invariant-loop-other : goal.invariant-loop-other
invariant-loop-other l =
    (goal.iterator-loop-other).can_next l.other-iterator ×
    (goal.iterator-loop-other).is_finite l.other-iterator ×
    (find (runs_apart l.skew l.rise (l.actor, l.pace)) l.paces.entries ≡ find (runs_apart l.skew l.rise (l.actor, l.pace)) l.other-iterator)
