use Rattle.hk_process.proofs.Taking.{taken_more}
use Rattle.hk_process.proofs.accept.take_on.Goals as goal

pub loop-preserved : goal.loop-preserved
loop-preserved g c = (
  tt,
  tt,
  taken_more _ _ (g.D.Doors.left c.args.doors.now) (g.D.Doors.left c.loop.doors) (g.D.Doors.left c.next_connection.new.doors) (g.S.Spawner.taken c.args.spawner.now) (g.S.Spawner.taken c.loop.spawner) (g.S.Spawner.taken c.start_made.new.self) (g.S.Spawner.faults c.args.spawner.now) (g.S.Spawner.faults c.loop.spawner) (g.S.Spawner.faults c.start_made.new.self) c.next_connection.result c.in-Some-next_connection.conn c.start_made.result c.loop.invariant.2 c.in-Some-next_connection.is c.next_connection.ensures c.start_made.ensures.taken c.start_made.ensures.cause,
)
