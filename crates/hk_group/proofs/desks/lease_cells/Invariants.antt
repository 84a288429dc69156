use Rattle.std.proofs.Common.{◌≡◌, length}
use Rattle.hk_group.proofs.desks.lease_cells.Given as goal

abbrev pub invariant-loop-shard : goal.invariant-loop-shard
invariant-loop-shard g l = length l.leases.items ≡ l.shard
