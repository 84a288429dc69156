use Rattle.std.proofs.Common.{◌≡◌, [], drop}
use Rattle.hk_reports.specs.Hearing.{with_nodes, with_members}
use Rattle.hk_reports.proofs.hearing.known_nodes.Given as goal

abbrev pub invariant-loop-view : goal.invariant-loop-view
invariant-loop-view l = with_members l.nodes.items (drop l.view-index l.views) ≡ with_members (with_nodes [] l.bound) l.views
