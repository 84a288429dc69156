use Rattle.std.proofs.Common.{[], ◌∷◌}
use Rattle.hk_worker.specs.Founding.{names_of}
use Rattle.hk_rows_turns.proofs.workers.who_acknowledges_nothing_is_silent.Given as goal

-- node 0 alone is named
abbrev pub ghosts-told_to_be_silent : goal.ghosts-told_to_be_silent
ghosts-told_to_be_silent g a = record { places = names_of a.founded ∷ [] }
