use Rattle.std.proofs.Common.{◌∙◌, Option, refl, sym, ap, subst, rules}
use Rattle.hk_base.specs.declared.call.Content.{Content}
use Rattle.hk_key.specs.Table.{on_inv}
use Rattle.hk_node.specs.Node.{NodeState}
use Rattle.hk_node.specs.Report.{IsMade}
use Rattle.hk_node.specs.Stepped.{Stepped}
use Rattle.hk_node.specs.Outs.{IsOutOf}
use Rattle.hk_node.proofs.Again.{row_of_found}
use Rattle.hk_node.proofs.Finishing.{found_now}
use Rattle.hk_node.proofs.Received.{inv_within, inv_kept, inv_put, inv_made}
use Rattle.hk_node.proofs.Places.{made_same, told_of_node, found_copy, on_err, node_still, indexed_still, node_stepped, indexed_stepped}
use Rattle.hk_node.proofs.node.Node.take_inv.Goals as goal

pub invariant_of-self-in_err-row : goal.invariant_of-self-in_err-row
invariant_of-self-in_err-row c = indexed_still _ c.args.self.now c.self.inside.index.keys c.self.inside.index.keys c.self.inside.whole c.args.key.now c.in-Some-get_mut.place.now c.in-Some-get_mut.place.now _ c.self.view_is c.self.invariant c.in-Some-get_mut.ensures.value (c.get_mut.follows.holds c.in-Some-get_mut.place.now).0 refl (λ k h. h)

pub returns-in_err-row-clause-err : goal.returns-in_err-row-clause-err
returns-in_err-row-clause-err c = on_err c.from_residual-in_err-row.result _ (node_still _ c.args.self.now c.self.inside.index.keys c.self.inside.index.keys c.self.inside.whole c.args.key.now c.in-Some-get_mut.place.now c.in-Some-get_mut.place.now _ c.self.view_is c.self.invariant c.in-Some-get_mut.ensures.value (c.get_mut.follows.holds c.in-Some-get_mut.place.now).0 refl)

pub on_inv-out-requires-clause-row : goal.on_inv-out-requires-clause-row
on_inv-out-requires-clause-row c = inv_within _ c.args.self.now c.self.view_is c.self.invariant.node c.args.key.now c.in_ok-row.row
    (sym (row_of_found c.args.key.now _ c.args.self.now.rows (found_copy _ c.args.self.now c.args.key.now _ _ c.self.view_is c.in-Some-get_mut.ensures.value (c.in_ok-row.ensures ∙ c.get.ensures))))
    c.args.from c.args.stamp c.args.kind c.args.content.now c.requires.within c.requires.leaves c.requires.other

pub put_stepped-requires : goal.put_stepped-requires
put_stepped-requires c = record {
  same = made_same c.args.key.now c.in-Some-get_mut.place.now c.on_inv-out.new.self c.args.self.now.rows (found_now _ c.args.self.now c.args.key.now _ c.self.view_is c.in-Some-get_mut.ensures.value) (inv_put _ c.args.self.now c.self.view_is c.self.invariant.node c.args.key.now c.in_ok-row.row
      (sym (row_of_found c.args.key.now _ c.args.self.now.rows (found_copy _ c.args.self.now c.args.key.now _ _ c.self.view_is c.in-Some-get_mut.ensures.value (c.in_ok-row.ensures ∙ c.get.ensures))))
      c.args.from c.args.stamp c.args.kind c.args.content.now c.requires.within c.requires.leaves c.requires.other c.on_inv-out.new.self (c.on_inv-out.ensures.row ∙ ap (λ (o : Option Content). (on_inv c.in_ok-row.row c.args.from c.args.stamp c.args.kind o).row) c.in_ok-content.ensures));
}

pub invariant_of-self-in_err-told : goal.invariant_of-self-in_err-told
invariant_of-self-in_err-told c = indexed_still _ c.args.self.now c.self.inside.index.keys c.put_stepped.new.index.keys c.self.inside.whole c.args.key.now c.in-Some-get_mut.place.now c.put_stepped.new.place _ c.self.view_is c.self.invariant c.in-Some-get_mut.ensures.value (c.get_mut.follows.holds c.put_stepped.new.place).0 c.in_err-told.ensures.err c.in_err-told.ensures.grown

pub returns-in_err-told-clause-err : goal.returns-in_err-told-clause-err
returns-in_err-told-clause-err c = on_err c.from_residual-in_err-told.result _ (node_still _ c.args.self.now c.self.inside.index.keys c.put_stepped.new.index.keys c.self.inside.whole c.args.key.now c.in-Some-get_mut.place.now c.put_stepped.new.place _ c.self.view_is c.self.invariant c.in-Some-get_mut.ensures.value (c.get_mut.follows.holds c.put_stepped.new.place).0 c.in_err-told.ensures.err)

pub invariant_of-self-2 : goal.invariant_of-self-2
invariant_of-self-2 c = indexed_stepped _ c.args.self.now c.self.inside.index.keys c.put_stepped.new.index.keys c.self.inside.whole c.args.key.now c.in-Some-get_mut.place.now c.put_stepped.new.place _ c.self.view_is c.self.invariant c.in-Some-get_mut.ensures.value (c.get_mut.follows.holds c.put_stepped.new.place).0
    c.on_inv-out.new.self c.in_ok-told.ensures.row (inv_put _ c.args.self.now c.self.view_is c.self.invariant.node c.args.key.now c.in_ok-row.row
    (sym (row_of_found c.args.key.now _ c.args.self.now.rows (found_copy _ c.args.self.now c.args.key.now _ _ c.self.view_is c.in-Some-get_mut.ensures.value (c.in_ok-row.ensures ∙ c.get.ensures))))
    c.args.from c.args.stamp c.args.kind c.args.content.now c.requires.within c.requires.leaves c.requires.other c.on_inv-out.new.self (c.on_inv-out.ensures.row ∙ ap (λ (o : Option Content). (on_inv c.in_ok-row.row c.args.from c.args.stamp c.args.kind o).row) c.in_ok-content.ensures)) (inv_kept _ c.args.self.now c.self.view_is c.self.invariant.node c.args.key.now c.in_ok-row.row
    (sym (row_of_found c.args.key.now _ c.args.self.now.rows (found_copy _ c.args.self.now c.args.key.now _ _ c.self.view_is c.in-Some-get_mut.ensures.value (c.in_ok-row.ensures ∙ c.get.ensures))))
    c.args.from c.args.stamp c.args.kind c.args.content.now c.requires.within c.requires.leaves c.requires.other c.on_inv-out.new.self (c.on_inv-out.ensures.row ∙ ap (λ (o : Option Content). (on_inv c.in_ok-row.row c.args.from c.args.stamp c.args.kind o).row) c.in_ok-content.ensures)) c.in_ok-told.ensures.listed

pub returns-clause-node : goal.returns-clause-node
returns-clause-node c = node_stepped _ c.args.self.now c.self.inside.index.keys c.put_stepped.new.index.keys c.self.inside.whole c.args.key.now c.in-Some-get_mut.place.now c.put_stepped.new.place _ c.self.view_is c.self.invariant c.in-Some-get_mut.ensures.value (c.get_mut.follows.holds c.put_stepped.new.place).0
    c.on_inv-out.new.self c.in_ok-told.ensures.row (inv_put _ c.args.self.now c.self.view_is c.self.invariant.node c.args.key.now c.in_ok-row.row
    (sym (row_of_found c.args.key.now _ c.args.self.now.rows (found_copy _ c.args.self.now c.args.key.now _ _ c.self.view_is c.in-Some-get_mut.ensures.value (c.in_ok-row.ensures ∙ c.get.ensures))))
    c.args.from c.args.stamp c.args.kind c.args.content.now c.requires.within c.requires.leaves c.requires.other c.on_inv-out.new.self (c.on_inv-out.ensures.row ∙ ap (λ (o : Option Content). (on_inv c.in_ok-row.row c.args.from c.args.stamp c.args.kind o).row) c.in_ok-content.ensures)) ∙ ap (λ (t : Stepped). t.node) (inv_made _ c.args.self.now c.self.view_is c.self.invariant.node c.args.key.now c.in_ok-row.row
    (sym (row_of_found c.args.key.now _ c.args.self.now.rows (found_copy _ c.args.self.now c.args.key.now _ _ c.self.view_is c.in-Some-get_mut.ensures.value (c.in_ok-row.ensures ∙ c.get.ensures))))
    c.args.from c.args.stamp c.args.kind c.args.content.now c.requires.within c.requires.leaves c.requires.other c.on_inv-out.new.self c.on_inv-out.result (c.on_inv-out.ensures.row ∙ ap (λ (o : Option Content). (on_inv c.in_ok-row.row c.args.from c.args.stamp c.args.kind o).row) c.in_ok-content.ensures) (c.on_inv-out.ensures.out ∙ ap (λ (o : Option Content). (on_inv c.in_ok-row.row c.args.from c.args.stamp c.args.kind o).out) c.in_ok-content.ensures))

pub returns-clause-out : goal.returns-clause-out
returns-clause-out c = subst (λ (t : Stepped). IsOutOf c.in_ok-told.told c.args.self.now t) (inv_made _ c.args.self.now c.self.view_is c.self.invariant.node c.args.key.now c.in_ok-row.row
    (sym (row_of_found c.args.key.now _ c.args.self.now.rows (found_copy _ c.args.self.now c.args.key.now _ _ c.self.view_is c.in-Some-get_mut.ensures.value (c.in_ok-row.ensures ∙ c.get.ensures))))
    c.args.from c.args.stamp c.args.kind c.args.content.now c.requires.within c.requires.leaves c.requires.other c.on_inv-out.new.self c.on_inv-out.result (c.on_inv-out.ensures.row ∙ ap (λ (o : Option Content). (on_inv c.in_ok-row.row c.args.from c.args.stamp c.args.kind o).row) c.in_ok-content.ensures) (c.on_inv-out.ensures.out ∙ ap (λ (o : Option Content). (on_inv c.in_ok-row.row c.args.from c.args.stamp c.args.kind o).out) c.in_ok-content.ensures))
    (told_of_node c.args.self.now _ c.in-Some.view c.args.key.now c.in-Some-get_mut.place.now _ c.in_ok-told.told c.self.view_is (search rules) c.self.invariant.node (sym c.in-Some-get_mut.ensures.value)
    (subst (λ (n : NodeState). IsMade n.rows c.args.key.now c.on_inv-out.new.self) (sym c.self.view_is) (inv_put _ c.args.self.now c.self.view_is c.self.invariant.node c.args.key.now c.in_ok-row.row
    (sym (row_of_found c.args.key.now _ c.args.self.now.rows (found_copy _ c.args.self.now c.args.key.now _ _ c.self.view_is c.in-Some-get_mut.ensures.value (c.in_ok-row.ensures ∙ c.get.ensures))))
    c.args.from c.args.stamp c.args.kind c.args.content.now c.requires.within c.requires.leaves c.requires.other c.on_inv-out.new.self (c.on_inv-out.ensures.row ∙ ap (λ (o : Option Content). (on_inv c.in_ok-row.row c.args.from c.args.stamp c.args.kind o).row) c.in_ok-content.ensures))) c.in_ok-told.ensures.told)
