use Rattle.std.proofs.Common.{◌≤◌}
use Rattle.hk_accept.specs.Serving.{Came, AreReceived}
use Rattle.hk_accept.proofs.accept.take_each.Given as goal

abbrev pub invariant-loop-number : goal.invariant-loop-number
invariant-loop-number g l = record {
  came : Came (g.D.Doors.left l.fn.doors) (g.D.Doors.left l.doors) l.number;
  received : AreReceived (g.S.Spawner.taken l.fn.spawner) (g.S.Spawner.taken l.spawner) (g.S.Spawner.faults l.fn.spawner) (g.S.Spawner.faults l.spawner) l.number;
  within : l.number ≤ l.fn.conns;
}
