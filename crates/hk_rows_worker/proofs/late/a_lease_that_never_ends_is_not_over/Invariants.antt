use Rattle.std.proofs.Common.{[], ◌∷◌}
use Rattle.hk_worker.specs.Founding.{names_of}
use Rattle.hk_rows_worker.proofs.late.a_lease_that_never_ends_is_not_over.Given as goal

-- node 0 alone is named
abbrev pub ghosts-unending : goal.ghosts-unending
ghosts-unending g a = record { places = names_of a.founded ∷ [] }
