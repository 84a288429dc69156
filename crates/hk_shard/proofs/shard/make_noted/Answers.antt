use Rattle.std.proofs.Common.{sym, subst}
use Rattle.std.specs.Option.{IsSome}
use Rattle.std.specs.List.{AllByRecursion}
use Rattle.hk_node.specs.declared.report.PriorRow.{PriorRow}
use Rattle.hk_node.specs.Rows.{find_row}
use Rattle.hk_node.specs.Node.{NodeState}
use Rattle.hk_shard.proofs.shard.make_noted.Goals as goal

pub undo-requires-clause-there : goal.undo-requires-clause-there
undo-requires-clause-there c =
    subst (λ (n : NodeState). AllByRecursion (λ (f : PriorRow). IsSome (find_row f.key n.rows)) c.in_ok-out.out.report.rows) (sym c.in_ok-out.ensures.node)
    c.in_ok-out.ensures.out.changed.there
