use Rattle.std.proofs.Common.{◌≡◌, ◌++◌, map, drop}
use Rattle.hk_safety.specs.Kept.{look_entry}
use Rattle.hk_safety.proofs.reading.put_looks.Given as goal

abbrev pub invariant-loop-look : goal.invariant-loop-look
invariant-loop-look l = l.order ++ map look_entry (drop l.look-index l.read_only) ≡ l.fn.order ++ map look_entry l.read_only
