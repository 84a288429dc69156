use Rattle.std.proofs.Common.{[], ◌∷◌}
use Rattle.hk_worker.specs.Founding.{names_of}
use Rattle.hk_rows_worker.proofs.conns.replies_of_one_node.Given as goal

-- node 0 alone is named
abbrev pub ghosts-tells : goal.ghosts-tells
ghosts-tells g a = record { places = names_of a.founded ∷ [] }
