use Rattle.std.proofs.Common.{◌≡◌, ◌++◌, drop}
use Rattle.hk_shard.proofs.replaced.copy_rows.Given as goal

abbrev pub invariant-loop-prior : goal.invariant-loop-prior
invariant-loop-prior l = l.same.items ++ drop l.prior-index l.rows ≡ l.rows
