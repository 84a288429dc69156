use Rattle.std.proofs.Common.{[], ◌∷◌}
use Rattle.hk_worker.specs.Founding.{names_of}
use Rattle.hk_rows_worker.proofs.clock_desks.reads_are_told_from_what_a_shard_shows.Given as goal

-- node 0 alone is named
abbrev pub ghosts-local_reads : goal.ghosts-local_reads
ghosts-local_reads g a = record { places = names_of a.founded ∷ [] }
