use Rattle.std.proofs.Common.{◌≡◌, map, take}
use Rattle.hk_manager.specs.Manager.{ManagerState}
use Rattle.hk_managing.proofs.cores.views_of.Given as goal

abbrev pub invariant-loop-shard : goal.invariant-loop-shard
invariant-loop-shard l = l.views.items ≡ map (λ (m : ManagerState). m.held) (take l.shard l.managers)
