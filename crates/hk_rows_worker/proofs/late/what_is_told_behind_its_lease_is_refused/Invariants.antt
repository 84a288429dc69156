use Rattle.std.proofs.Common.{[], ◌∷◌}
use Rattle.hk_worker.specs.Founding.{names_of}
use Rattle.hk_rows_worker.proofs.late.what_is_told_behind_its_lease_is_refused.Given as goal

-- node 0 alone is named
abbrev pub ghosts-late_answers : goal.ghosts-late_answers
ghosts-late_answers g a = record { places = names_of a.founded ∷ [] }
