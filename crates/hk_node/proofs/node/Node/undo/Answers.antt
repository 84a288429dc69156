use Rattle.std.proofs.Common.{sym, subst, List}
use Rattle.hk_node.specs.declared.report.PriorRow.{PriorRow}
use Rattle.hk_node.specs.Node.{NodeState}
use Rattle.hk_node.proofs.Givings.{There}
use Rattle.hk_node.proofs.node.Node.undo.Goals as goal

pub give_rows_back-requires-clause-there : goal.give_rows_back-requires-clause-there
give_rows_back-requires-clause-there c =
    subst (λ (l : List PriorRow). There l c.self.inside.rows.entries) (sym c.into_vec.ensures)
    (subst (λ (n : NodeState). There c.args.report.rows n.rows) (sym c.self.view_is) c.requires.there)
