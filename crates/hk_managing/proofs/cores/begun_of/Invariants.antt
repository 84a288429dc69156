use Rattle.std.proofs.Common.{◌≡◌}
use Rattle.hk_managing.specs.Intending.{begun_below}
use Rattle.hk_managing.proofs.cores.begun_of.Given as goal

abbrev pub invariant-loop-shard : goal.invariant-loop-shard
invariant-loop-shard l = l.begun.items ≡ begun_below l.intents l.managers l.shard
