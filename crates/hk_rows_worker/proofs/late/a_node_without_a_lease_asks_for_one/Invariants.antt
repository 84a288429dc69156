use Rattle.std.proofs.Common.{[], ◌∷◌}
use Rattle.hk_worker.specs.Founding.{names_of}
use Rattle.hk_rows_worker.proofs.late.a_node_without_a_lease_asks_for_one.Given as goal

-- node 0 alone is named
abbrev pub ghosts-asks_at_first : goal.ghosts-asks_at_first
ghosts-asks_at_first g a = record { places = names_of a.founded ∷ [] }
