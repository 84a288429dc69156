use Rattle.std.proofs.Common.{◌≡◌, ◌++◌, map, take, drop}
use Rattle.hk_durable.specs.Batches.{AreManagers}
use Rattle.hk_durable.specs.Replays.{noted}
use Rattle.hk_durable.proofs.replay.note_all.Given as goal

-- those so far have noted it
abbrev pub invariant-loop-manager : goal.invariant-loop-manager
invariant-loop-manager l = (l.manager-items ≡ map noted (take l.manager-index l.fn.managers.items) ++ drop l.manager-index l.fn.managers.items) × AreManagers l.id l.lease l.manager-items
