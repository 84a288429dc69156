use Rattle.std.proofs.Common.{[], ◌∷◌}
use Rattle.hk_worker.specs.Founding.{names_of}
use Rattle.hk_rows_turns.proofs.nodes.what_one_node_stores_another_finds.Given as goal

-- nodes 0 and 1 are named
abbrev pub ghosts-nodes_meet : goal.ghosts-nodes_meet
ghosts-nodes_meet g a = record { places = names_of a.first ∷ names_of a.second ∷ [] }
