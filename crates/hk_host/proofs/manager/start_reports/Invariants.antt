use Rattle.std.proofs.Common.{◌≤◌}
use Rattle.hk_host.proofs.manager.start_reports.Given as goal

-- the spawner's count of faults never fell
abbrev pub invariant-loop-place : goal.invariant-loop-place
invariant-loop-place g l = g.S.Spawner.faults l.fn.spawner ≤ g.S.Spawner.faults l.spawner
