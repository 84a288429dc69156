use Rattle.std.proofs.Common.{◌≤◌}
use Rattle.hk_host.proofs.node.start_copying.Given as goal

-- the spawner's count of faults never fell
abbrev pub invariant-loop-shard : goal.invariant-loop-shard
invariant-loop-shard g l = g.S.Spawner.faults l.fn.spawner ≤ g.S.Spawner.faults l.spawner
