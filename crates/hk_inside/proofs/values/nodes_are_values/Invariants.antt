use Rattle.std.specs.List.{AllWithin}
use Rattle.hk_inside.specs.Parts.{IsSeenValue}
use Rattle.hk_inside.proofs.values.nodes_are_values.Given as goal

abbrev pub invariant-loop-node : goal.invariant-loop-node
invariant-loop-node l = AllWithin IsSeenValue l.nodes 0 l.node-index
