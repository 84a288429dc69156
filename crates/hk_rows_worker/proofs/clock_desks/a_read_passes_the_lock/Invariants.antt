use Rattle.std.proofs.Common.{[], ◌∷◌}
use Rattle.hk_worker.specs.Founding.{names_of}
use Rattle.hk_rows_worker.proofs.clock_desks.a_read_passes_the_lock.Given as goal

-- node 0 alone is named
abbrev pub ghosts-read_passes : goal.ghosts-read_passes
ghosts-read_passes g a = record { places = names_of a.founded ∷ [] }
