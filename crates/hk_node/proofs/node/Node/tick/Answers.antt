use Rattle.std.proofs.Common.{ap, subst, refl}
use Rattle.hk_node.specs.declared.report.Undo.TheVariants.{Clock}
use Rattle.hk_node.specs.Node.{NodeState}
use Rattle.hk_node.specs.Steps.{ticks}
use Rattle.hk_node.specs.Sound.{IsNode}
use Rattle.hk_node.proofs.Outs.{out_of_undo}
use Rattle.hk_node.proofs.node.Node.tick.Goals as goal

pub returns-clause-out : goal.returns-clause-out
returns-clause-out c = out_of_undo c.args.self.now (ticks c.args.self.now c.args.now) c.replaces-out.result (Clock c.self.inside.clock) (subst IsNode c.self.view_is c.self.invariant.node) refl refl
    (ap (λ (n : NodeState). record c.args.self.now { clock = n.clock }) c.self.view_is)
    c.replaces-out.ensures.letters c.replaces-out.ensures.replies c.replaces-out.ensures.installed c.replaces-out.ensures.undo c.replaces-out.ensures.report
