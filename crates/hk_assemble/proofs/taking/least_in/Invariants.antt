-- The least so far and the slots that are left give the least of all.
use Rattle.std.proofs.Common.{◌≡◌, drop, map, None}
use Rattle.hk_merge.specs.Placed.{item_of}
use Rattle.hk_assemble.specs.Taking.{least_from}
use Rattle.hk_assemble.proofs.taking.least_in.Given as goal

abbrev pub invariant-loop-slot : goal.invariant-loop-slot
invariant-loop-slot l = least_from l.letter l.least (map item_of (drop l.slot-index l.slots)) ≡ least_from l.letter None (map item_of l.slots)
