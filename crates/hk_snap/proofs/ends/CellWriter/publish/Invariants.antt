use Rattle.hk_snap.specs.Snapshots.{published}
use Rattle.hk_snap.proofs.ends.CellWriter.publish.Given as goal

abbrev pub ghosts-store : goal.ghosts-store
ghosts-store g a = record { publication = published a.key.now a.row.now a.ticket a.call }
