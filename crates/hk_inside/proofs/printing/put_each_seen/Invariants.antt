use Rattle.std.proofs.Common.{◌≡◌, ◌++◌, take}
use Rattle.std.specs.List.{flat_map}
use Rattle.hk_inside.specs.Parts.{seen_bytes}
use Rattle.hk_inside.proofs.printing.put_each_seen.Given as goal

abbrev pub invariant-loop-node : goal.invariant-loop-node
invariant-loop-node l = l.out.items ≡ l.fn.out.items ++ flat_map seen_bytes (take l.node-index l.nodes)
