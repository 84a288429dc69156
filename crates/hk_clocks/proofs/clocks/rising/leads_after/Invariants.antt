use Rattle.std.proofs.Common.{◌≡◌, ◌++◌}
use Rattle.hk_clocks.specs.Steps.{leads_after}
use Rattle.hk_clocks.proofs.Ahead.{leads_among}
use Rattle.hk_clocks.proofs.clocks.rising.leads_after.Given as goal

-- the leads so far, and those over what is left, are all
abbrev pub invariant-loop-other : goal.invariant-loop-other
invariant-loop-other l =
    (goal.iterator-loop-other).can_next l.other-iterator ×
    (goal.iterator-loop-other).is_finite l.other-iterator ×
    (l.leads ++ leads_among l.rise (l.actor, l.pace) l.other-iterator ≡ leads_after l.rise l.paces.entries (l.actor, l.pace))
