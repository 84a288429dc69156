use Rattle.std.proofs.Common.{◌≡◌, ◌++◌, drop}
use Rattle.hk_reports.specs.Hearing.{shards_heard}
use Rattle.hk_reports.proofs.hearing.shards_heard.Given as goal

abbrev pub invariant-loop-shard : goal.invariant-loop-shard
invariant-loop-shard l = l.shards ++ shards_heard l.now l.proposed l.shard (drop l.shard l.views) ≡ shards_heard l.now l.proposed 0 l.views
