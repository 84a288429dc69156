use Rattle.std.proofs.Common.{refl}
use Rattle.hk_snap.specs.Snapshots.{cell_of}
use Rattle.hk_shard.proofs.Covering.{covers_over}
use Rattle.hk_shard.proofs.laws.cells_show_the_part.Goals as goal

pub returns : goal.returns
returns c s key is =
    let shows = is.shows (cell_of key) in
    rw (shows.ends, is.part) (covers_over (cell_of key) shows.front s.base s.journal is.node is.events shows.covers key refl)
