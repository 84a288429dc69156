use Rattle.hk_process.specs.Serving.{HasTaken}
use Rattle.hk_process.proofs.accept.take_on.Given as goal

-- what came so far was received
abbrev pub invariant-loop : goal.invariant-loop
invariant-loop g l =
    (goal.iterator-loop g).can_next l.iterator' × (goal.iterator-loop g).is_finite l.iterator'
    × HasTaken (g.D.Doors.left l.fn.doors) (g.D.Doors.left l.doors) (g.S.Spawner.taken l.fn.spawner) (g.S.Spawner.taken l.spawner) (g.S.Spawner.faults l.fn.spawner) (g.S.Spawner.faults l.spawner) 0
