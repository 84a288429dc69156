use Rattle.std.proofs.Common.{◌≡◌, ◌++◌, map, take, drop}
use Rattle.hk_world.specs.Steps.{manager_ticked}
use Rattle.hk_world.proofs.world.scan.tick_managers.Given as goal

-- those so far have risen
abbrev pub invariant-loop-process : goal.invariant-loop-process
invariant-loop-process l = l.process-items ≡ map (manager_ticked l.to) (take l.process-index l.fn.managers.items) ++ drop l.process-index l.fn.managers.items
