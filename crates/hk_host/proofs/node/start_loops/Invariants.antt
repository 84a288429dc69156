use Rattle.std.proofs.Common.{◌≤◌}
use Rattle.hk_host.proofs.node.start_loops.Given as goal

-- the spawner's count of faults never fell
abbrev pub invariant-loop-number : goal.invariant-loop-number
invariant-loop-number g l = g.S.Spawner.faults l.fn.spawner ≤ g.S.Spawner.faults l.spawner
