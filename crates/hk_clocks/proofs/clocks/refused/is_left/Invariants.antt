use Rattle.std.proofs.Common.{◌≡◌}
use Rattle.std.specs.List.{AllByRecursion, list_any}
use Rattle.hk_clocks.specs.Steps.{runs_apart}
use Rattle.hk_clocks.specs.Sound.{AreBounded}
use Rattle.hk_clocks.proofs.clocks.refused.is_left.Given as goal

-- what is left has one that runs too far ahead, if there is one
abbrev pub invariant-loop-actor : goal.invariant-loop-actor
invariant-loop-actor l =
    (goal.iterator-loop-actor).can_next l.actor-iterator ×
    (goal.iterator-loop-actor).is_finite l.actor-iterator ×
    (list_any (λ p. runs_apart l.skew l.rise p (l.other, l.theirs)) l.paces.entries ≡ list_any (λ p. runs_apart l.skew l.rise p (l.other, l.theirs)) l.actor-iterator) ×
    AllByRecursion AreBounded l.actor-iterator
