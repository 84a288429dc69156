use Rattle.std.proofs.Common.{◌≡◌, ◌++◌, map, drop}
use Rattle.hk_reports.specs.Hearing.{node_heard}
use Rattle.hk_reports.proofs.reports.Reports.nodes_heard.Given as goal

abbrev pub invariant-loop-node : goal.invariant-loop-node
invariant-loop-node l = l.heard ++ map (node_heard l.self l.now l.bound) (drop l.node-index l.nodes) ≡ map (node_heard l.self l.now l.bound) l.nodes
