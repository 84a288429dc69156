use Rattle.std.proofs.Common.{◌≤◌, ◌-◌, length}
use Rattle.hk_accept.specs.Serving.{Taken}
use Rattle.hk_group.proofs.server.start_each.Given as goal

-- those that are not left were taken
abbrev pub invariant-loop-job : goal.invariant-loop-job
invariant-loop-job g l = record {
  few : length l.job-iterator.rest.items ≤ length l.fn.jobs.items;
  taken : Taken (g.S.Spawner.taken l.fn.spawner) (g.S.Spawner.taken l.spawner) (length l.fn.jobs.items - length l.job-iterator.rest.items);
  kept : Taken (g.S.Spawner.taken l.fn.spawner) (g.S.Spawner.taken l.spawner) 0;
  later : g.S.Spawner.faults l.fn.spawner ≤ g.S.Spawner.faults l.spawner;
}
