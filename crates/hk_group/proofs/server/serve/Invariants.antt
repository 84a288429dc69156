use Rattle.std.proofs.Common.{map}
use Rattle.hk_worker.specs.Founding.{names_of}
use Rattle.hk_group.proofs.server.serve.Given as goal

-- the cells that were just made
abbrev pub ghosts-run : goal.ghosts-run
ghosts-run g a = record { places = map names_of a.founded.items }
