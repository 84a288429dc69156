-- The keys of open rows follow a step.
use Rattle.std.proofs.Common.{◌≡◌, ℕ, List, map, sym, subst}
use Rattle.hk_node.specs.declared.event.NodeEvent.{NodeEvent}
use Rattle.hk_node.specs.declared.report.PriorRow.{PriorRow}
use Rattle.hk_node.specs.Node.{NodeState}
use Rattle.hk_node.specs.Report.{AreChanged}
use Rattle.hk_node.specs.Steps.{node_step}
use Rattle.hk_due.specs.Keys.{OpenState, AreNoted, Follows}
use Rattle.hk_shard.specs.Shard.{ShardState}

pub follows : (s now : ShardState) (part : NodeState) (ticket : ℕ) (event : NodeEvent) (changed shown : List PriorRow) (keys followed : OpenState) → s ≡ now
    → AreChanged changed s.part.rows (node_step s.part event).node.rows → part ≡ (node_step s.part event).node → shown ≡ changed
    → AreNoted part.rows ticket (map (λ f. f.key) shown) keys followed → Follows ticket now.part.rows part.rows keys followed
follows s now part ticket event changed shown keys followed same are at is noted = record {
  changed = changed;
  differ = subst (λ (n : NodeState). AreChanged changed now.part.rows n.rows) (sym at)
      (subst (λ (x : ShardState). AreChanged changed x.part.rows (node_step s.part event).node.rows) same are);
  noted = subst (λ (l : List PriorRow). AreNoted part.rows ticket (map (λ f. f.key) l) keys followed) is noted;
}
