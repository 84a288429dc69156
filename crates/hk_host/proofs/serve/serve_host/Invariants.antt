use Rattle.std.specs.Arc.{arc_value}
use Rattle.hk_worker.specs.Founding.{names_of_cells}
use Rattle.hk_group.proofs.Alone.{anywhere}
use Rattle.hk_host.proofs.serve.serve_host.Given as goal

-- the cells that were just made, whichever number the node gets
abbrev pub ghosts-serve_process : goal.ghosts-serve_process
ghosts-serve_process g a = record { places = anywhere (names_of_cells (arc_value a.shared.now).identity.skew a.cells) }
