use Rattle.std.proofs.Common.{[], ◌∷◌}
use Rattle.hk_worker.specs.Founding.{names_of}
use Rattle.hk_rows_turns.proofs.workers.a_parcel_to_another_node_is_passed_over.Given as goal

-- node 0 alone is named
abbrev pub ghosts-applied_or_passed_over : goal.ghosts-applied_or_passed_over
ghosts-applied_or_passed_over g a = record { places = names_of a.founded ∷ [] }
