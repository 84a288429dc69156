use Rattle.std.proofs.Common.{[], ◌∷◌}
use Rattle.hk_worker.specs.Founding.{names_of}
use Rattle.hk_rows_worker.proofs.desks.what_one_desk_stores_another_finds.Given as goal

-- node 0 alone is named
abbrev pub ghosts-two_desks : goal.ghosts-two_desks
ghosts-two_desks g a = record { places = names_of a.founded ∷ [] }
