use Rattle.std.proofs.Common.{◌≡◌, take}
use Rattle.std.specs.List.{flat_map}
use Rattle.hk_office.specs.Telling.{node_told}
use Rattle.hk_office.proofs.office.Office.nodes_told.Given as goal

abbrev pub invariant-loop-node : goal.invariant-loop-node
invariant-loop-node l = l.lines.items ≡ flat_map (node_told l.self l.now) (take l.node-index l.nodes)
