use Rattle.hk_group.proofs.Alone.{alone}
use Rattle.hk_process.proofs.server.serve_process.Given as goal

-- the cells that were just made
abbrev pub ghosts-run : goal.ghosts-run
ghosts-run g a = record { places = alone a.founded }
