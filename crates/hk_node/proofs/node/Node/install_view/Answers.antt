use Rattle.std.proofs.Common.{rules, ◌≡◌, ◌∙◌, ◌&&◌, sym, ap, subst, true, false, nat_lt, Some, refl, length}
use Rattle.hk_node.specs.Node.{NodeState, epoch_of}
use Rattle.hk_base.specs.View.{is_member}
use Rattle.hk_node.specs.Steps.{installs}
use Rattle.hk_node.specs.declared.out.NodeOut.{NodeOut}
use Rattle.hk_node.specs.declared.report.Undo.TheVariants as Undo
use Rattle.hk_node.specs.Outs.{IsOutOf}
use Rattle.std.specs.List.{flat_map}
use Rattle.hk_node.specs.Viewed.{view_new}
use Rattle.hk_node.proofs.Installed.{fresh_rises, fresh_there, install_rows, install_node, install_kept, install_out, beside_is}
use Rattle.hk_node.proofs.Walk.{valid_rests, has_viewed}
use Rattle.hk_node.proofs.Reports.{report_as}
use Rattle.hk_node.proofs.node.Node.install_view.Goals as goal

pub give_rows_back-requires-clause-rising : goal.give_rows_back-requires-clause-rising
give_rows_back-requires-clause-rising c = fresh_rises c.args.self.now c.args.view.now _ c.self.inside.rows.entries
    (c.into_vec.ensures ∙ c.in_ok-viewed.ensures.fresh ∙ ap (λ (n : NodeState). flat_map (view_new n.id c.args.view.now) c.self.inside.rows.entries) c.self.view_is) c.self.invariant.node.ordered

pub give_rows_back-requires-clause-there : goal.give_rows_back-requires-clause-there
give_rows_back-requires-clause-there c = fresh_there c.args.self.now c.args.view.now _ c.self.inside.rows.entries
    (c.into_vec.ensures ∙ c.in_ok-viewed.ensures.fresh ∙ ap (λ (n : NodeState). flat_map (view_new n.id c.args.view.now) c.self.inside.rows.entries) c.self.view_is) c.self.invariant.node.ordered

pub invariant_of-self-2 : goal.invariant_of-self-2
invariant_of-self-2 c = record {
  node = install_kept _ c.args.view.now c.self.invariant.node c.requires.view
      (subst (λ (n : NodeState). (nat_lt (epoch_of n) c.args.view.now.epoch && is_member n.id c.args.view.now.members) ≡ true) (sym c.self.view_is) c.requires.later)
      c.args.activated (subst (λ (n : NodeState). length c.args.activated ≡ n.managers) (sym c.self.view_is) c.requires.activated)
      c.into_vec.result.items c.replace-view_before.new.dest c.replace-activated_before.new.dest c.give_rows_back.new.rows.entries
      (c.into_vec.ensures ∙ c.in_ok-viewed.ensures.fresh) (search rules) (search rules) c.give_rows_back.ensures;
  has = λ w. has_viewed c.self.inside.id c.args.view.now c.mend.new.keys.keys c.self.inside.rows.entries c.give_rows_back.new.rows.entries
      (install_rows _ c.args.view.now c.self.invariant.node c.requires.view
      (subst (λ (n : NodeState). (nat_lt (epoch_of n) c.args.view.now.epoch && is_member n.id c.args.view.now.members) ≡ true) (sym c.self.view_is) c.requires.later)
      c.args.activated (subst (λ (n : NodeState). length c.args.activated ≡ n.managers) (sym c.self.view_is) c.requires.activated)
      c.into_vec.result.items c.give_rows_back.new.rows.entries (c.into_vec.ensures ∙ c.in_ok-viewed.ensures.fresh) c.give_rows_back.ensures)
      (valid_rests _ _ c.self.inside.rows.entries c.self.invariant.node.rows) c.in_ok-mend.ensures.ok;
}

pub view_rows-requires-clause-rest : goal.view_rows-requires-clause-rest
view_rows-requires-clause-rest c = valid_rests _ _ c.self.inside.rows.entries c.self.invariant.node.rows

pub returns-clause-node : goal.returns-clause-node
returns-clause-node c = install_node _ c.args.view.now c.self.invariant.node c.requires.view
    (subst (λ (n : NodeState). (nat_lt (epoch_of n) c.args.view.now.epoch && is_member n.id c.args.view.now.members) ≡ true) (sym c.self.view_is) c.requires.later)
    c.args.activated (subst (λ (n : NodeState). length c.args.activated ≡ n.managers) (sym c.self.view_is) c.requires.activated)
    c.into_vec.result.items c.replace-view_before.new.dest c.replace-activated_before.new.dest c.give_rows_back.new.rows.entries
    (c.into_vec.ensures ∙ c.in_ok-viewed.ensures.fresh) (search rules) (search rules) c.give_rows_back.ensures
    ∙ ap (λ (n : NodeState). (installs (record n { activated = c.args.activated }) c.args.view.now).node) c.self.view_is

pub returns-clause-out : goal.returns-clause-out
returns-clause-out c = let told : NodeOut = record {
  letters = c.in_ok-viewed.viewed.letters;
  replies = c.many.result;
  installed = Some c.args.view.now.epoch;
  report = record { epoch = c.epoch-epoch.result; readied = false; rows = c.in_ok-viewed.viewed.prior };
  undo = Undo.View c.replace-view_before.result c.replace-activated_before.result;
} in
    subst (λ (n : NodeState). IsOutOf told n (installs (record n { activated = c.args.activated }) c.args.view.now)) c.self.view_is
    (install_out _ c.args.view.now c.self.invariant.node c.requires.view
    (subst (λ (n : NodeState). (nat_lt (epoch_of n) c.args.view.now.epoch && is_member n.id c.args.view.now.members) ≡ true) (sym c.self.view_is) c.requires.later)
    c.args.activated (subst (λ (n : NodeState). length c.args.activated ≡ n.managers) (sym c.self.view_is) c.requires.activated)
    told c.in_ok-viewed.viewed.prior c.in_ok-viewed.ensures.letters (c.many.ensures ∙ c.in_ok-viewed.ensures.replies) refl (beside_is _ _ _ _ c.replace-view_before.ensures.value c.replace-activated_before.ensures.value)
    (report_as _ c.args.self.now c.epoch-epoch.result false c.in_ok-viewed.viewed.prior _ c.self.view_is c.epoch-epoch.ensures refl) c.in_ok-viewed.ensures.prior)
