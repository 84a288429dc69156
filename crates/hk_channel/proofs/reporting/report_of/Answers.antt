use Rattle.std.proofs.Common.{List, All, length, ◌<◌, sym, subst, rules}
use Rattle.hk_inside.specs.declared.report.NodeSeen.{NodeSeen}
use Rattle.hk_inside.specs.Parts.{IsSeenInRange}
use Rattle.hk_channel.proofs.Telling.{few, all_in_range}
use Rattle.hk_channel.proofs.reporting.report_of.Goals as goal

pub returns-clause-range : goal.returns-clause-range
returns-clause-range c = record {
  node = search rules;
  manager = search rules;
  ready = search rules;
  inside = search rules;
  clients = search rules;
  few = subst (λ (xs : List NodeSeen). length xs < 256) (sym c.in_ok-nodes_told.ensures) (few c.as_slice-3.result.now c.as_slice-4.result.now);
  nodes = subst (λ (xs : List NodeSeen). All IsSeenInRange xs) (sym c.in_ok-nodes_told.ensures) (all_in_range c.as_slice-3.result.now c.as_slice-4.result.now);
}
