use Rattle.std.proofs.Common.{◌∙◌, false, refl, sym, ap, subst, ◌++◌, rules}
use Rattle.hk_node.specs.Sends.{at_view, sent}
use Rattle.hk_node.specs.Node.{NodeState}
use Rattle.hk_node.specs.Report.{IsMade}
use Rattle.hk_node.proofs.Outs.{finished}
use Rattle.hk_node.proofs.Reports.{report_as}
use Rattle.hk_node.proofs.Walk.{kept_rows, has_with}
use Rattle.hk_node.proofs.node.Node.finish.Goals as goal

pub returns-clause-out : goal.returns-clause-out
returns-clause-out c = finished c.args.self.now _ c.in-Some.view c.args.key.now (record { row = c.args.row; out = c.args.out }) _
    c.self.view_is (search rules) c.self.invariant.node (subst (λ (n : NodeState). IsMade n.rows c.args.key.now c.args.row) (sym c.self.view_is) c.requires.made)
    (c.in_ok-post_sent.ensures ∙ ap (λ l. l ++ sent (at_view c.self.inside.id c.in-Some.view) c.args.key.now c.args.row c.args.out.send) c.new-letters.ensures)
    c.replies-replies.ensures refl refl (report_as _ c.args.self.now c.epoch-epoch.result false c.in_ok-rows.rows _ c.self.view_is c.epoch-epoch.ensures c.in_ok-rows.ensures.prior)

pub invariant_of-self-2 : goal.invariant_of-self-2
invariant_of-self-2 c = record {
  node = kept_rows _ c.args.self.now c.args.key.now c.args.row c.put_first.new.rows.entries c.self.view_is c.requires.node c.in_ok-rows.ensures.put;
  has = λ w. has_with c.self.inside.index.keys c.list_row.new.keys.keys c.self.inside.rows.entries c.put_first.new.rows.entries c.args.key.now c.args.row c.in_ok-rows.ensures.put
      c.list_row.ensures.grown c.in_ok-list_row.ensures.listed (c.self.invariant.has w);
}
