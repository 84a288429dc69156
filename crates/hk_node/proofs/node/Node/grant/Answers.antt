use Rattle.std.proofs.Common.{ap, subst, refl}
use Rattle.hk_node.specs.declared.report.Undo.TheVariants.{Lease}
use Rattle.hk_node.specs.Node.{NodeState}
use Rattle.hk_node.specs.Steps.{grants}
use Rattle.hk_node.specs.Sound.{IsNode}
use Rattle.hk_node.proofs.Outs.{out_of_undo}
use Rattle.hk_node.proofs.node.Node.grant.Goals as goal

pub returns-clause-out : goal.returns-clause-out
returns-clause-out c = out_of_undo c.args.self.now (grants c.args.self.now c.args.end) c.replaces-out.result (Lease c.self.inside.granted) (subst IsNode c.self.view_is c.self.invariant.node) refl refl
    (ap (λ (n : NodeState). record c.args.self.now { granted = n.granted }) c.self.view_is)
    c.replaces-out.ensures.letters c.replaces-out.ensures.replies c.replaces-out.ensures.installed c.replaces-out.ensures.undo c.replaces-out.ensures.report
