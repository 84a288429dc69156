use Rattle.std.proofs.Common.{◌≡◌, replicate}
use Rattle.hk_manager.specs.Sound.{manager_new}
use Rattle.hk_durable.proofs.managers.Managers.founding.Given as goal

-- those so far are new
abbrev pub invariant-loop-shard : goal.invariant-loop-shard
invariant-loop-shard l = l.items.items ≡ replicate l._shard (manager_new l.id l.managers l.view l.lease)
