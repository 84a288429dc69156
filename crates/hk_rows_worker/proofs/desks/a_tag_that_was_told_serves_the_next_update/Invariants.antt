use Rattle.std.proofs.Common.{[], ◌∷◌}
use Rattle.hk_worker.specs.Founding.{names_of}
use Rattle.hk_rows_worker.proofs.desks.a_tag_that_was_told_serves_the_next_update.Given as goal

-- node 0 alone is named
abbrev pub ghosts-stored_by_tag : goal.ghosts-stored_by_tag
ghosts-stored_by_tag g a = record { places = names_of a.founded ∷ [] }
