use Rattle.std.proofs.Common.{◌≡◌, ℕ, ◌-◌, Option}
use Rattle.hk_due.specs.declared.due.Due.{Due}
use Rattle.hk_turns.specs.Rounds.{RoundState}
use Rattle.hk_turns.specs.Workers.{Walks}
use Rattle.hk_turns.proofs.round.next_due.Given as goal

-- what the rest of the walk finds, the whole walk finds
abbrev pub invariant-loop-shard : goal.invariant-loop-shard
invariant-loop-shard g l = (l.round.shard ≡ l.shard) × ((found : Option (ℕ × Due)) (after : RoundState) →
    Walks (g.W.Workplace.finds l.place) (g.W.Workplace.lacks l.place) (8 - l.shard) l.round found after → Walks (g.W.Workplace.finds l.place) (g.W.Workplace.lacks l.place) (8 - l.fn.round.shard) l.fn.round found after)
