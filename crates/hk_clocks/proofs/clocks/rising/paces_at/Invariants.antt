use Rattle.std.proofs.Common.{◌≡◌, ◌++◌, map}
use Rattle.std.specs.List.{AllByRecursion}
use Rattle.hk_clocks.specs.declared.rise.Rise.TheVariants.{All}
use Rattle.hk_clocks.specs.Steps.{pace_after, paces_after}
use Rattle.hk_clocks.specs.Sound.{AreBounded}
use Rattle.hk_clocks.proofs.clocks.rising.paces_at.Given as goal

-- the clocks so far, and those that are left, are all
abbrev pub invariant-loop-actor : goal.invariant-loop-actor
invariant-loop-actor l =
    (goal.iterator-loop-actor).can_next l.actor-iterator ×
    (goal.iterator-loop-actor).is_finite l.actor-iterator ×
    (l.after.entries ++ map (λ p. (p.0, pace_after (All l.to) l.paces.entries p)) l.actor-iterator ≡ paces_after (All l.to) l.paces.entries) ×
    AllByRecursion AreBounded l.actor-iterator
