-- the founders so far are those of the numbers so far
use Rattle.std.proofs.Common.{◌≡◌, length}
use Rattle.hk_storm.specs.Founding.{AreFounded}
use Rattle.hk_storm.proofs.founding.found_all.Given as goal

abbrev pub invariant-loop-node : goal.invariant-loop-node
invariant-loop-node g l = AreFounded l.all.items × (length l.all.items ≡ l.node)
