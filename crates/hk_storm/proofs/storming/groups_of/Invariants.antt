-- the cells of all nodes are named
use Rattle.std.proofs.Common.{map}
use Rattle.hk_worker.specs.Founding.{names_of}
use Rattle.hk_storm.proofs.storming.groups_of.Given as goal

abbrev pub ghosts-storm_at : goal.ghosts-storm_at
ghosts-storm_at g a = record { places = map names_of a.founded.items }
