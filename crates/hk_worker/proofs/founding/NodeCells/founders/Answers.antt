use Rattle.std.proofs.Common.{ap, ◌∙◌}
use Rattle.hk_worker.specs.Founding.{names_of_cells}
use Rattle.hk_worker.proofs.Over.{each_founded, each_new, same_names}
use Rattle.hk_worker.proofs.founding.NodeCells.founders.Goals as goal

pub invariant_of-result : goal.invariant_of-result
invariant_of-result g c = each_founded _ _ c.self.inside.shards c.in_ok-shards.shards c.in_ok-shards.ensures

pub returns-clause-founders : goal.returns-clause-founders
returns-clause-founders g c = each_new _ _ c.self.inside.shards c.in_ok-shards.shards c.in_ok-shards.ensures

pub returns-clause-cells : goal.returns-clause-cells
returns-clause-cells g c = same_names _ _ c.self.inside.shards c.in_ok-shards.shards c.in_ok-shards.ensures ∙ ap (names_of_cells c.args.skew) c.self.view_is
