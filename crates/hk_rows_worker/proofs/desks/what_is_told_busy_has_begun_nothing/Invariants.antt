use Rattle.std.proofs.Common.{[], ◌∷◌}
use Rattle.hk_worker.specs.Founding.{names_of}
use Rattle.hk_rows_worker.proofs.desks.what_is_told_busy_has_begun_nothing.Given as goal

-- node 0 alone is named
abbrev pub ghosts-told_begins_nothing : goal.ghosts-told_begins_nothing
ghosts-told_begins_nothing g a = record { places = names_of a.founded ∷ [] }
