use Rattle.std.proofs.Common.{◌≡◌, drop}
use Rattle.hk_reports.specs.Hearing.{with_nodes}
use Rattle.hk_reports.proofs.hearing.add_nodes.Given as goal

abbrev pub invariant-loop-node : goal.invariant-loop-node
invariant-loop-node l = with_nodes l.nodes.items (drop l.node-index l.more) ≡ with_nodes l.initial.nodes.items l.more
