use Rattle.std.proofs.Common.{◌∙◌, sym, ap, ◌++◌, ◌∷◌, [], rules}
use Rattle.hk_node.specs.Sends.{at_view, letters_to}
use Rattle.hk_node.specs.Node.{NodeState}
use Rattle.hk_node.specs.Report.{rows_report}
use Rattle.hk_node.proofs.Copied.{told_out}
use Rattle.hk_node.proofs.node.Node.tell.Goals as goal

pub returns : goal.returns
returns c = record {
  out = told_out _ c.args.self.now c.in-Some.view c.args.body c.args.to c.tells.result c.self.view_is (search rules)
      (c.tells.ensures.letters ∙ c.in_ok-post.ensures ∙ ap (λ l. l ++ letters_to (at_view c.self.inside.id c.in-Some.view) c.args.body (c.args.to ∷ [])) c.new-letters.ensures)
      (c.tells.ensures.replies ∙ c.nothing.ensures) c.tells.ensures.installed c.tells.ensures.undo (c.tells.ensures.report ∙ sym (ap (λ (n : NodeState). rows_report n []) c.self.view_is)) c.self.invariant.node;
}
