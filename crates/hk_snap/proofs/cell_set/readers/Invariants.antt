use Rattle.std.proofs.Common.{◌≡◌, map, take}
use Rattle.hk_snap.specs.Ends.{another}
use Rattle.hk_snap.proofs.cell_set.readers.Given as goal

abbrev pub invariant-loop-k : goal.invariant-loop-k
invariant-loop-k l = (l.ends.items ≡ l.fn.ends.items) × (l.all.items ≡ map another (take l.k l.fn.ends.items))
