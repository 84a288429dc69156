use Rattle.std.proofs.Common.{◌≤◌}
use Rattle.hk_overseer.specs.Turns.{AreTurns}
use Rattle.hk_overseer.proofs.turns.oversee.Given as goal

-- the turns so far
abbrev pub invariant-loop-turn : goal.invariant-loop-turn
invariant-loop-turn g l = AreTurns (g.C.Clock.reading l.clock) l.turn l.fn.post l.post × (l.turn ≤ l.turns)
