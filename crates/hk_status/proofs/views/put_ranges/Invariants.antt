use Rattle.std.proofs.Common.{◌≡◌, ◌++◌, drop}
use Rattle.hk_status.specs.Views.{ranges_from}
use Rattle.hk_status.proofs.views.put_ranges.Given as goal

abbrev pub invariant-loop-shard : goal.invariant-loop-shard
invariant-loop-shard l = l.out.items ++ ranges_from l.views l.view l.shard (drop l.shard l.views) ≡ l.fn.out.items ++ ranges_from l.views l.view 0 l.views
