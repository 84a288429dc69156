use Rattle.std.proofs.Common.{ap}
use Rattle.hk_snap.specs.Leases.{Lease}
use Rattle.hk_shard.proofs.Keeping.{first_reader}
use Rattle.hk_shard.proofs.cells.ShardCells.new.Goals as goal

pub invariant_of-result : goal.invariant_of-result
invariant_of-result g c =
    let made = c.in_ok-writer in (
      made.ensures.nothing.0,
      made.ensures.nothing.1,
      c.in_ok-keeper.ensures.keeper,
      first_reader made.reader made.writer made.ensures.nothing.1 made.ensures.reader,
      ap (λ (l : Lease). l.name) c.in_ok-keeper.ensures.cell,
    )
