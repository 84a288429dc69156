use Rattle.std.proofs.Common.{◌∙◌, [], ap, subst, refl, rules}
use Rattle.hk_node.specs.declared.report.Undo.TheVariants.{Granted}
use Rattle.hk_node.specs.Node.{NodeState}
use Rattle.hk_node.specs.Report.{rows_report}
use Rattle.hk_node.specs.Sound.{IsNode}
use Rattle.hk_node.specs.Steps.{granted_by}
use Rattle.hk_node.proofs.Activations.{end_kept, end_undone}
use Rattle.hk_node.proofs.Outs.{out_of_undo}
use Rattle.hk_node.proofs.node.Node.take_lease.Goals as goal

pub invariant_of-self : goal.invariant_of-self
invariant_of-self c = record {
  node = end_kept _ c.args.self.now c.self.view_is c.args.manager c.args.end _ _ c.requires.end (search rules) (search rules) c.self.invariant.node;
  has = c.self.invariant.has;
}

pub returns-clause-out : goal.returns-clause-out
returns-clause-out c = out_of_undo c.args.self.now (granted_by c.args.self.now c.args.manager c.args.end) c.replaces.result (Granted c.replace-granted_before.result c.replace-ends_before.result)
    (subst IsNode c.self.view_is c.self.invariant.node) refl refl
    (end_undone _ c.args.self.now c.self.view_is c.replace-granted_before.result c.replace-ends_before.result c.replace-granted_before.ensures.value c.replace-ends_before.ensures.value)
    c.replaces.ensures.letters c.replaces.ensures.replies c.replaces.ensures.installed c.replaces.ensures.undo
    (c.replaces.ensures.report ∙ ap (λ (n : NodeState). rows_report n []) c.self.view_is)
