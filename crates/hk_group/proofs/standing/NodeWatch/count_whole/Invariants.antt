use Rattle.std.proofs.Common.{◌≤◌}
use Rattle.hk_group.proofs.standing.NodeWatch.count_whole.Given as goal

-- no more than were looked at
abbrev pub invariant-loop-shard : goal.invariant-loop-shard
invariant-loop-shard g l = l.count ≤ l.shard
