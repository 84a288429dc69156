use Rattle.std.proofs.Common.{◌≡◌, ◌++◌, drop}
use Rattle.hk_status.specs.Views.{lines_from}
use Rattle.hk_status.proofs.views.put_views.Given as goal

abbrev pub invariant-loop-shard : goal.invariant-loop-shard
invariant-loop-shard l = l.out.items ++ lines_from l.views l.shard (drop l.shard l.views) ≡ l.fn.out.items ++ lines_from l.views 0 l.views
