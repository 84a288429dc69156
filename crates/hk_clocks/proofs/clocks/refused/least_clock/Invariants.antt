use Rattle.std.proofs.Common.{ℕ, ◌≤◌}
use Rattle.std.specs.List.{AllByRecursion}
use Rattle.hk_clocks.proofs.clocks.refused.least_clock.Given as goal

-- what is below the least so far, and below all that are left, is below all
abbrev pub invariant-loop-actor : goal.invariant-loop-actor
invariant-loop-actor l =
    (goal.iterator-loop-actor).can_next l._actor-iterator ×
    (goal.iterator-loop-actor).is_finite l._actor-iterator ×
    (l.least ≤ l.fn.high) ×
    ((low : ℕ) → low ≤ l.least → AllByRecursion (λ p. low ≤ p.1.clock) l._actor-iterator → AllByRecursion (λ p. low ≤ p.1.clock) l.paces.entries)
