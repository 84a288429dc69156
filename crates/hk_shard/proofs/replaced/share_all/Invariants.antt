use Rattle.std.proofs.Common.{◌≡◌, ◌++◌, drop}
use Rattle.hk_shard.proofs.replaced.share_all.Given as goal

abbrev pub invariant-loop-one : goal.invariant-loop-one
invariant-loop-one l = l.same.items ++ drop l.one-index l.replaced ≡ l.replaced
