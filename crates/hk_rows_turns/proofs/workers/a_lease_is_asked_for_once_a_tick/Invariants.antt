use Rattle.std.proofs.Common.{[], ◌∷◌}
use Rattle.hk_worker.specs.Founding.{names_of}
use Rattle.hk_rows_turns.proofs.workers.a_lease_is_asked_for_once_a_tick.Given as goal

-- node 0 alone is named
abbrev pub ghosts-leases_asked_for : goal.ghosts-leases_asked_for
ghosts-leases_asked_for g a = record { places = names_of a.founded ∷ [] }
