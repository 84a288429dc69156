-- The assembly is that of the slots so far.
use Rattle.std.proofs.Common.{take, map}
use Rattle.hk_merge.specs.Placed.{item_of}
use Rattle.hk_assemble.specs.Assemblies.{IsOn}
use Rattle.hk_assemble.proofs.assembly.follow.Given as goal

abbrev pub invariant-loop-slot : goal.invariant-loop-slot
invariant-loop-slot l = IsOn l.fn.header l.assembly (map item_of (take l.slot-index l.slots))
