use Rattle.std.proofs.Common.{◌≡◌, length}
use Rattle.hk_group.proofs.Naming.{ArePlaced}
use Rattle.hk_group.proofs.founding.found_nodes.Given as goal

-- so far each has its number and its place
abbrev pub invariant-loop-number : goal.invariant-loop-number
invariant-loop-number g l = (length l.nodes.items ≡ l.number) × ArePlaced l.nodes.items l.nodes.items
