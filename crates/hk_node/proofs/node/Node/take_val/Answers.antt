use Rattle.std.proofs.Common.{◌∙◌, refl, sym, ap, subst, rules}
use Rattle.hk_node.specs.Node.{NodeState}
use Rattle.hk_node.specs.Report.{IsMade}
use Rattle.hk_node.specs.Stepped.{Stepped}
use Rattle.hk_node.specs.Outs.{IsOutOf}
use Rattle.hk_node.proofs.Finishing.{found_now}
use Rattle.hk_node.proofs.Received.{val_kept, val_put, val_made, val_within}
use Rattle.hk_node.proofs.Places.{made_same, told_of_node, on_err, node_still, indexed_still, node_stepped, indexed_stepped}
use Rattle.hk_node.proofs.node.Node.take_val.Goals as goal

pub invariant_of-self-in_err-row : goal.invariant_of-self-in_err-row
invariant_of-self-in_err-row c = indexed_still _ c.args.self.now c.self.inside.index.keys c.self.inside.index.keys c.self.inside.whole c.args.key.now c.in-Some-get_mut.place.now c.in-Some-get_mut.place.now _ c.self.view_is c.self.invariant c.in-Some-get_mut.ensures.value (c.get_mut.follows.holds c.in-Some-get_mut.place.now).0 refl (λ k h. h)

pub returns-in_err-row-clause-err : goal.returns-in_err-row-clause-err
returns-in_err-row-clause-err c = on_err c.from_residual.result _ (node_still _ c.args.self.now c.self.inside.index.keys c.self.inside.index.keys c.self.inside.whole c.args.key.now c.in-Some-get_mut.place.now c.in-Some-get_mut.place.now _ c.self.view_is c.self.invariant c.in-Some-get_mut.ensures.value (c.get_mut.follows.holds c.in-Some-get_mut.place.now).0 refl)

pub on_val-requires-clause-row : goal.on_val-requires-clause-row
on_val-requires-clause-row c = val_within c.args.self.now c.args.key.now c.in-Some-get_mut.place.now c.in_ok-row.row
    (found_now _ c.args.self.now c.args.key.now _ c.self.view_is c.in-Some-get_mut.ensures.value) (c.in_ok-row.ensures ∙ c.get.ensures) c.args.from c.args.stamp _ c.self.invariant.node c.self.view_is

pub put_stepped-requires : goal.put_stepped-requires
put_stepped-requires c = record {
  same = made_same c.args.key.now c.in-Some-get_mut.place.now c.on_val.new.self c.args.self.now.rows (found_now _ c.args.self.now c.args.key.now _ c.self.view_is c.in-Some-get_mut.ensures.value) (val_put c.args.self.now c.args.key.now c.in-Some-get_mut.place.now c.in_ok-row.row
      (found_now _ c.args.self.now c.args.key.now _ c.self.view_is c.in-Some-get_mut.ensures.value) (c.in_ok-row.ensures ∙ c.get.ensures) c.args.from c.args.stamp _ c.on_val.new.self c.self.invariant.node c.self.view_is c.on_val.ensures.row);
}

pub invariant_of-self-in_err-told : goal.invariant_of-self-in_err-told
invariant_of-self-in_err-told c = indexed_still _ c.args.self.now c.self.inside.index.keys c.put_stepped.new.index.keys c.self.inside.whole c.args.key.now c.in-Some-get_mut.place.now c.put_stepped.new.place _ c.self.view_is c.self.invariant c.in-Some-get_mut.ensures.value (c.get_mut.follows.holds c.put_stepped.new.place).0 c.in_err-told.ensures.err c.in_err-told.ensures.grown

pub returns-in_err-told-clause-err : goal.returns-in_err-told-clause-err
returns-in_err-told-clause-err c = on_err c.from_residual-in_err-told.result _ (node_still _ c.args.self.now c.self.inside.index.keys c.put_stepped.new.index.keys c.self.inside.whole c.args.key.now c.in-Some-get_mut.place.now c.put_stepped.new.place _ c.self.view_is c.self.invariant c.in-Some-get_mut.ensures.value (c.get_mut.follows.holds c.put_stepped.new.place).0 c.in_err-told.ensures.err)

pub invariant_of-self-2 : goal.invariant_of-self-2
invariant_of-self-2 c = indexed_stepped _ c.args.self.now c.self.inside.index.keys c.put_stepped.new.index.keys c.self.inside.whole c.args.key.now c.in-Some-get_mut.place.now c.put_stepped.new.place _ c.self.view_is c.self.invariant c.in-Some-get_mut.ensures.value (c.get_mut.follows.holds c.put_stepped.new.place).0
    c.on_val.new.self c.in_ok-told.ensures.row (val_put c.args.self.now c.args.key.now c.in-Some-get_mut.place.now c.in_ok-row.row
    (found_now _ c.args.self.now c.args.key.now _ c.self.view_is c.in-Some-get_mut.ensures.value) (c.in_ok-row.ensures ∙ c.get.ensures) c.args.from c.args.stamp _ c.on_val.new.self c.self.invariant.node c.self.view_is c.on_val.ensures.row) (val_kept c.args.self.now c.args.key.now c.in-Some-get_mut.place.now c.in_ok-row.row
    (found_now _ c.args.self.now c.args.key.now _ c.self.view_is c.in-Some-get_mut.ensures.value) (c.in_ok-row.ensures ∙ c.get.ensures) c.args.from c.args.stamp _ c.on_val.new.self c.self.invariant.node c.self.view_is c.requires.within c.requires.other c.on_val.ensures.row) c.in_ok-told.ensures.listed

pub returns-clause-node : goal.returns-clause-node
returns-clause-node c = node_stepped _ c.args.self.now c.self.inside.index.keys c.put_stepped.new.index.keys c.self.inside.whole c.args.key.now c.in-Some-get_mut.place.now c.put_stepped.new.place _ c.self.view_is c.self.invariant c.in-Some-get_mut.ensures.value (c.get_mut.follows.holds c.put_stepped.new.place).0
    c.on_val.new.self c.in_ok-told.ensures.row (val_put c.args.self.now c.args.key.now c.in-Some-get_mut.place.now c.in_ok-row.row
    (found_now _ c.args.self.now c.args.key.now _ c.self.view_is c.in-Some-get_mut.ensures.value) (c.in_ok-row.ensures ∙ c.get.ensures) c.args.from c.args.stamp _ c.on_val.new.self c.self.invariant.node c.self.view_is c.on_val.ensures.row) ∙ ap (λ (t : Stepped). t.node) (val_made c.args.self.now c.args.key.now c.in-Some-get_mut.place.now c.in_ok-row.row
    (found_now _ c.args.self.now c.args.key.now _ c.self.view_is c.in-Some-get_mut.ensures.value) (c.in_ok-row.ensures ∙ c.get.ensures) c.args.from c.args.stamp c.on_val.new.self c.on_val.ensures.row)

pub returns-clause-out : goal.returns-clause-out
returns-clause-out c = subst (λ (t : Stepped). IsOutOf c.in_ok-told.told c.args.self.now t) (val_made c.args.self.now c.args.key.now c.in-Some-get_mut.place.now c.in_ok-row.row
    (found_now _ c.args.self.now c.args.key.now _ c.self.view_is c.in-Some-get_mut.ensures.value) (c.in_ok-row.ensures ∙ c.get.ensures) c.args.from c.args.stamp c.on_val.new.self c.on_val.ensures.row)
    (told_of_node c.args.self.now _ c.in-Some.view c.args.key.now c.in-Some-get_mut.place.now _ c.in_ok-told.told c.self.view_is (search rules) c.self.invariant.node (sym c.in-Some-get_mut.ensures.value)
    (subst (λ (n : NodeState). IsMade n.rows c.args.key.now c.on_val.new.self) (sym c.self.view_is) (val_put c.args.self.now c.args.key.now c.in-Some-get_mut.place.now c.in_ok-row.row
    (found_now _ c.args.self.now c.args.key.now _ c.self.view_is c.in-Some-get_mut.ensures.value) (c.in_ok-row.ensures ∙ c.get.ensures) c.args.from c.args.stamp _ c.on_val.new.self c.self.invariant.node c.self.view_is c.on_val.ensures.row)) c.in_ok-told.ensures.told)
