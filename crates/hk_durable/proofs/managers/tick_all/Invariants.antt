use Rattle.std.proofs.Common.{◌≡◌, ◌++◌, take, drop}
use Rattle.hk_durable.specs.Batches.{ticked}
use Rattle.hk_durable.proofs.managers.tick_all.Given as goal

-- those so far have risen
abbrev pub invariant-loop-manager : goal.invariant-loop-manager
invariant-loop-manager l = l.manager-items ≡ ticked l.now (take l.manager-index l.fn.managers.items) ++ drop l.manager-index l.fn.managers.items
