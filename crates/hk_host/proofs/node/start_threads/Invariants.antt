use Rattle.std.proofs.Common.{◌≤◌}
use Rattle.hk_host.proofs.node.start_threads.Given as goal

-- the spawner's count of faults never fell
abbrev pub invariant-loop : goal.invariant-loop
invariant-loop g l = g.S.Spawner.faults l.fn.spawner ≤ g.S.Spawner.faults l.spawner
