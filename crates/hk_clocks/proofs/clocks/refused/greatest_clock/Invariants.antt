use Rattle.std.proofs.Common.{◌≡◌}
use Rattle.hk_clocks.specs.Steps.{greatest_clock}
use Rattle.hk_clocks.proofs.clocks.refused.greatest_clock.Given as goal

-- what is left raises the greatest so far to the greatest of all
abbrev pub invariant-loop-actor : goal.invariant-loop-actor
invariant-loop-actor l =
    (goal.iterator-loop-actor).can_next l._actor-iterator ×
    (goal.iterator-loop-actor).is_finite l._actor-iterator ×
    (greatest_clock l.greatest l._actor-iterator ≡ greatest_clock l.fn.low l.paces.entries)
