use Rattle.std.proofs.Common.{[], ◌∷◌}
use Rattle.hk_worker.specs.Founding.{names_of}
use Rattle.hk_rows_turns.proofs.workers.what_a_gate_does_not_keep_is_lost.Given as goal

-- node 0 alone is named
abbrev pub ghosts-lost_at_a_gate : goal.ghosts-lost_at_a_gate
ghosts-lost_at_a_gate g a = record { places = names_of a.founded ∷ [] }
