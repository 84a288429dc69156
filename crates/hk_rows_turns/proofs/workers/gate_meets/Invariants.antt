use Rattle.std.proofs.Common.{[], ◌∷◌}
use Rattle.hk_worker.specs.Founding.{names_of}
use Rattle.hk_rows_turns.proofs.workers.gate_meets.Given as goal

-- node 0 alone is named
abbrev pub ghosts-gates_meet : goal.ghosts-gates_meet
ghosts-gates_meet g a = record { places = names_of a.founded ∷ [] }
