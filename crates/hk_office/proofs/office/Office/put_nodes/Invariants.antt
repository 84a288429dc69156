use Rattle.std.proofs.Common.{◌≡◌, ◌++◌, take}
use Rattle.std.specs.List.{flat_map}
use Rattle.hk_office.specs.Board.{line_at}
use Rattle.hk_office.proofs.office.Office.put_nodes.Given as goal

abbrev pub invariant-loop-node : goal.invariant-loop-node
invariant-loop-node l = l.lines.items ≡ l.fn.lines.items ++ flat_map (line_at l.self l.now l.views) (take l.node-index l.nodes)
