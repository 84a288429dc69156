use Rattle.std.proofs.Common.{◌∙◌, [], ap, subst, refl}
use Rattle.hk_node.specs.declared.report.Undo.TheVariants.{Activated}
use Rattle.hk_node.specs.Node.{NodeState}
use Rattle.hk_node.specs.Report.{rows_report}
use Rattle.hk_node.specs.Sound.{IsNode}
use Rattle.hk_node.specs.Stepped.{idle}
use Rattle.hk_node.proofs.Activations.{note_undone}
use Rattle.hk_node.proofs.Outs.{out_of_undo}
use Rattle.hk_node.proofs.node.Node.note_activated.Goals as goal

pub returns-clause-out : goal.returns-clause-out
returns-clause-out c = out_of_undo c.args.self.now (idle (record c.args.self.now { activated = c.args.activated })) c.replaces.result (Activated c.replace-before.result)
    (subst IsNode c.self.view_is c.self.invariant.node) refl refl
    (note_undone _ c.args.self.now c.self.view_is c.replace-before.result c.replace-before.ensures.value)
    c.replaces.ensures.letters c.replaces.ensures.replies c.replaces.ensures.installed c.replaces.ensures.undo
    (c.replaces.ensures.report ∙ ap (λ (n : NodeState). rows_report n []) c.self.view_is)
