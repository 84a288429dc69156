use Rattle.std.proofs.Common.{subst, sym}
use Rattle.hk_process.specs.Serving.{HasTaken}
use Rattle.hk_process.proofs.Taking.{taken_on}
use Rattle.hk_process.proofs.accept.take_conns.Goals as goal

-- that the doors were closed took no connection
pub returns-then-no_more-clause-done : goal.returns-then-no_more-clause-done
returns-then-no_more-clause-done g c =
    let all = taken_on (g.D.Doors.left c.args.doors.now) (g.D.Doors.left c.take_each.new.doors) (g.D.Doors.left c.take_on-no_more.new.doors) (g.S.Spawner.taken c.args.spawner.now) (g.S.Spawner.taken c.take_each.new.spawner) (g.S.Spawner.taken c.take_on-no_more.new.spawner) (g.S.Spawner.faults c.args.spawner.now) (g.S.Spawner.faults c.take_each.new.spawner) (g.S.Spawner.faults c.take_on-no_more.new.spawner) c.args.conns c.take_each.ensures c.take_on-no_more.ensures in
    λ done. subst (λ left. HasTaken (g.D.Doors.left c.args.doors.now) left (g.S.Spawner.taken c.args.spawner.now) (g.S.Spawner.taken c.take_on-no_more.new.spawner) (g.S.Spawner.faults c.args.spawner.now) (g.S.Spawner.faults c.take_on-no_more.new.spawner) c.args.conns) (sym c.close-3.ensures.left) all

pub returns-else-no_more-clause-done : goal.returns-else-no_more-clause-done
returns-else-no_more-clause-done g c =
    let all = taken_on (g.D.Doors.left c.args.doors.now) (g.D.Doors.left c.take_each.new.doors) (g.D.Doors.left c.take_on-no_more.new.doors) (g.S.Spawner.taken c.args.spawner.now) (g.S.Spawner.taken c.take_each.new.spawner) (g.S.Spawner.taken c.take_on-no_more.new.spawner) (g.S.Spawner.faults c.args.spawner.now) (g.S.Spawner.faults c.take_each.new.spawner) (g.S.Spawner.faults c.take_on-no_more.new.spawner) c.args.conns c.take_each.ensures c.take_on-no_more.ensures in
    λ done. subst (λ left. HasTaken (g.D.Doors.left c.args.doors.now) left (g.S.Spawner.taken c.args.spawner.now) (g.S.Spawner.taken c.take_on-no_more.new.spawner) (g.S.Spawner.faults c.args.spawner.now) (g.S.Spawner.faults c.take_on-no_more.new.spawner) c.args.conns) (sym c.close-3.ensures.left) all
