use Rattle.std.proofs.Common.{subst}
use Rattle.hk_process.specs.Process.{process_jobs}
use Rattle.hk_process.specs.Serving.{HasTakenBeside}
use Rattle.hk_group.proofs.Alone.{alone_named}
use Rattle.hk_process.proofs.server.serve_process.Goals as goal

pub run-requires-clause-named : goal.run-requires-clause-named
run-requires-clause-named g c κs within = alone_named c.in-Ok-found_node.founded

-- that the port was opened took no connection
pub returns-in-Ok-found_node-clause-done : goal.returns-in-Ok-found_node-clause-done
returns-in-Ok-found_node-clause-done g c = λ done. subst (λ left. HasTakenBeside (process_jobs c.args.process.now) left (g.D.Doors.left c.run.new.doors) (g.S.Spawner.taken c.args.spawner.now) (g.S.Spawner.taken c.run.new.spawner) (g.S.Spawner.faults c.args.spawner.now) (g.S.Spawner.faults c.run.new.spawner) c.args.process.now.conns) c.open.ensures.left (c.run.ensures.done done)
