use Rattle.std.proofs.Common.{ℕ, ◌≤◌}
use Rattle.hk_turns.specs.Turns.{AreTurns, begins}
use Rattle.hk_turns.proofs.turning.make_turns.Given as goal

-- the turns so far
abbrev pub invariant-loop-turn : goal.invariant-loop-turn
invariant-loop-turn g l =
    ((ticket : ℕ) × AreTurns (g.W.Workplace.applies l.place) (g.W.Workplace.finds l.place) (g.W.Workplace.owes l.place) (g.W.Workplace.lacks l.place) g.G.Gate.answers g.G.Gate.closed l.turn
    (begins (record { worker = l.fn.worker; way = record { gate = l.fn.gate; outlets = l.fn.outlets.items } }) ticket)
    (record { worker = l.worker; way = record { gate = l.gate; outlets = l.outlets.items } })) × (l.turn ≤ l.turns)
