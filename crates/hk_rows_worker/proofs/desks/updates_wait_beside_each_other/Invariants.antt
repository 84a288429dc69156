use Rattle.std.proofs.Common.{[], ◌∷◌}
use Rattle.hk_worker.specs.Founding.{names_of}
use Rattle.hk_rows_worker.proofs.desks.updates_wait_beside_each_other.Given as goal

-- node 0 alone is named
abbrev pub ghosts-two_wait : goal.ghosts-two_wait
ghosts-two_wait g a = record { places = names_of a.founded ∷ [] }
