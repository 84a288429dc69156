use Rattle.std.proofs.Common.{rules, ◌≡◌, ◌++◌}
use Rattle.hk_status.specs.Views.{range_part, ranges_from}
use Rattle.hk_status.proofs.Ranging.{ranges_more}
use Rattle.hk_status.proofs.views.put_ranges.Goals as goal

pub loop-shard-preserved : goal.loop-shard-preserved
loop-shard-preserved c =
    let put : c.put_range_part.new.out.items ≡ c.loop-shard.out.items ++ range_part c.args.views.now c.args.view.now c.loop-shard.shard = search rules in
    ranges_more c.loop-shard.out.items c.put_range_part.new.out.items (c.args.out.now.items ++ ranges_from c.args.views.now c.args.view.now 0 c.args.views.now)
    c.args.views.now c.args.view.now c.loop-shard.shard c.loop-shard-test.true put c.loop-shard.invariant
