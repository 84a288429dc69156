use Rattle.std.proofs.Common.{[], ◌∷◌}
use Rattle.hk_worker.specs.Founding.{names_of}
use Rattle.hk_rows_worker.proofs.clock_desks.a_lease_that_may_be_over_is_told.Given as goal

-- node 0 alone is named
abbrev pub ghosts-leases_end : goal.ghosts-leases_end
ghosts-leases_end g a = record { places = names_of a.founded ∷ [] }
