use Rattle.std.proofs.Common.{◌≡◌, ◌++◌, map, drop}
use Rattle.hk_safety.specs.Placed.{look_placed}
use Rattle.hk_safety.proofs.placed.place_looks.Given as goal

abbrev pub invariant-loop-look : goal.invariant-loop-look
invariant-loop-look l = l.placed.items ++ map look_placed (drop l.look-index l.read_only) ≡ l.fn.placed.items ++ map look_placed l.read_only
