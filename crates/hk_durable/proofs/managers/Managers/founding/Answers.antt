use Rattle.std.proofs.Common.{rules, ◌≡◌, ◌+◌, arith}
use Rattle.hk_manager.specs.Sound.{manager_new}
use Rattle.hk_durable.proofs.Turning.{copied_more}
use Rattle.hk_durable.proofs.managers.Managers.founding.Goals as goal

pub loop-shard-preserved : goal.loop-shard-preserved
loop-shard-preserved c =
    let m = manager_new c.args.id c.args.managers c.args.view.now c.args.lease in
    let made : c.in_ok-new_manager.field-0 ≡ m = search rules in
    copied_more c.loop-shard._shard (c.loop-shard._shard + 1) m c.in_ok-new_manager.field-0 c.loop-shard.items.items c.push.new.self.items c.in_ok-push.ensures.items c.loop-shard.invariant made (omega arith)
