use Rattle.std.proofs.Common.{◌≡◌}
use Rattle.hk_manager.specs.Manager.{ManagerState}
use Rattle.hk_manager.specs.Sound.{IsManager}
use Rattle.hk_durable.specs.Replays.{TakesAsks}
use Rattle.hk_durable.proofs.replay.note_each.Given as goal

-- what the asks of the rest make of the manager, those of all make of it
abbrev pub invariant-loop-node : goal.invariant-loop-node
invariant-loop-node l =
    ((after : ManagerState) → TakesAsks l.fn.manager l.node-iterator.rest.items l.manager after → TakesAsks l.fn.manager l.fn.nodes.items l.fn.manager after)
    × (l.manager.id ≡ l.id) × IsManager l.manager × (l.manager.lease ≡ l.fn.manager.lease)
