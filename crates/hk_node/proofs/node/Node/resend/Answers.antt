use Rattle.std.proofs.Common.{◌≡◌, ◌∙◌, sym, ap, subst, ◌++◌, [], Some, None, rules}
use Rattle.hk_node.specs.Node.{NodeState}
use Rattle.hk_node.specs.Sends.{at_view, sent}
use Rattle.hk_node.specs.Steps.{resent}
use Rattle.hk_node.specs.Stepped.{Stepped, idle}
use Rattle.hk_node.specs.Report.{rows_report}
use Rattle.hk_node.specs.Sound.{IsNode}
use Rattle.hk_node.proofs.Finishing.{found_now, idle_as}
use Rattle.hk_node.proofs.Again.{resent_is, resent_none, resent_unseen, resent_told}
use Rattle.hk_node.proofs.node.Node.resend.Goals as goal

pub returns-in_default-clause-out : goal.returns-in_default-clause-out
returns-in_default-clause-out c = idle_as c.idle.result c.args.self.now _
    (subst (λ (n : NodeState). resent n c.args.key.now ≡ idle n) c.self.view_is (resent_unseen _ c.args.key.now c.self.invariant.node c.in_default.is)) c.idle.ensures

pub returns-in_default-get-clause-out : goal.returns-in_default-get-clause-out
returns-in_default-get-clause-out c = idle_as c.idle-in_default-get.result c.args.self.now _
    (resent_none c.args.self.now c.args.key.now (found_now _ c.args.self.now c.args.key.now None c.self.view_is c.in_default-get.ensures.value)) c.idle-in_default-get.ensures

pub returns-clause-node : goal.returns-clause-node
returns-clause-node c = sym (ap (λ (s : Stepped). s.node)
    (resent_is c.args.self.now c.args.key.now c.in-Some-get.row.now (subst IsNode c.self.view_is c.self.invariant.node).ordered (found_now _ c.args.self.now c.args.key.now _ c.self.view_is c.in-Some-get.ensures.value)))

pub returns-clause-out : goal.returns-clause-out
returns-clause-out c = resent_told _ c.args.self.now c.in-Some.view c.args.key.now c.get-row.result.now c.tells.result
    (record { ok = c.self.invariant.node; same = c.self.view_is; seen = search rules })
    (found_now _ c.args.self.now c.args.key.now _ c.self.view_is c.in-Some-get.ensures.value ∙ ap Some (sym c.get-row.ensures))
    (c.tells.ensures.letters ∙ c.in_ok-post_sent.ensures ∙ ap (λ l. l ++ sent (at_view c.self.inside.id c.in-Some.view) c.args.key.now c.get-row.result.now c.resend-out.result.send) c.new-letters.ensures
    ∙ ap (λ o. sent (at_view c.self.inside.id c.in-Some.view) c.args.key.now c.get-row.result.now o.send) c.resend-out.ensures)
    (c.tells.ensures.replies ∙ c.nothing.ensures) c.tells.ensures.installed c.tells.ensures.undo (c.tells.ensures.report ∙ sym (ap (λ (n : NodeState). rows_report n []) c.self.view_is))
