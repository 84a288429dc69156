use Rattle.std.proofs.Common.{◌∙◌, refl, sym, ap, subst, rules}
use Rattle.hk_node.specs.Stepped.{Stepped}
use Rattle.hk_node.specs.Node.{NodeState}
use Rattle.hk_node.specs.Report.{IsMade}
use Rattle.hk_node.specs.Outs.{IsOutOf}
use Rattle.hk_node.proofs.Finishing.{found_now}
use Rattle.hk_node.proofs.Again.{sound_inside}
use Rattle.hk_node.proofs.Received.{other_inside, ack_kept, ack_put, ack_made}
use Rattle.hk_node.proofs.Places.{made_same, told_of_node, found_copy, on_err, node_still, indexed_still, node_stepped, indexed_stepped}
use Rattle.hk_node.proofs.node.Node.take_ack.Goals as goal

pub invariant_of-self-in_err-row : goal.invariant_of-self-in_err-row
invariant_of-self-in_err-row c = indexed_still _ c.args.self.now c.self.inside.index.keys c.self.inside.index.keys c.self.inside.whole c.args.key.now c.in-Some-get_mut.place.now c.in-Some-get_mut.place.now _ c.self.view_is c.self.invariant c.in-Some-get_mut.ensures.value (c.get_mut.follows.holds c.in-Some-get_mut.place.now).0 refl (λ k h. h)

pub returns-in_err-row-clause-err : goal.returns-in_err-row-clause-err
returns-in_err-row-clause-err c = on_err c.from_residual.result _ (node_still _ c.args.self.now c.self.inside.index.keys c.self.inside.index.keys c.self.inside.whole c.args.key.now c.in-Some-get_mut.place.now c.in-Some-get_mut.place.now _ c.self.view_is c.self.invariant c.in-Some-get_mut.ensures.value (c.get_mut.follows.holds c.in-Some-get_mut.place.now).0 refl)

pub on_ack-out-requires-clause-sound : goal.on_ack-out-requires-clause-sound
on_ack-out-requires-clause-sound c = sound_inside _ c.args.self.now c.in-Some.view (record { ok = c.self.invariant.node; same = c.self.view_is; seen = search rules }) c.args.key.now c.in_ok-row.row
    (found_copy _ c.args.self.now c.args.key.now _ _ c.self.view_is c.in-Some-get_mut.ensures.value (c.in_ok-row.ensures ∙ c.get.ensures))

pub on_ack-out-requires-clause-other : goal.on_ack-out-requires-clause-other
on_ack-out-requires-clause-other c = other_inside _ c.args.self.now c.in-Some.view c.args.from (record { ok = c.self.invariant.node; same = c.self.view_is; seen = search rules }) c.requires.other

pub put_stepped-requires : goal.put_stepped-requires
put_stepped-requires c = record {
  same = made_same c.args.key.now c.in-Some-get_mut.place.now c.on_ack-out.new.self c.args.self.now.rows (found_now _ c.args.self.now c.args.key.now _ c.self.view_is c.in-Some-get_mut.ensures.value)
      (ack_put _ c.args.self.now c.in-Some.view (record { ok = c.self.invariant.node; same = c.self.view_is; seen = search rules }) c.args.key.now c.in_ok-row.row (found_copy _ c.args.self.now c.args.key.now _ _ c.self.view_is c.in-Some-get_mut.ensures.value (c.in_ok-row.ensures ∙ c.get.ensures)) c.args.from c.args.stamp c.args.top c.requires.within c.requires.top c.requires.other c.on_ack-out.new.self c.on_ack-out.ensures.row);
}

pub invariant_of-self-in_err-told : goal.invariant_of-self-in_err-told
invariant_of-self-in_err-told c = indexed_still _ c.args.self.now c.self.inside.index.keys c.put_stepped.new.index.keys c.self.inside.whole c.args.key.now c.in-Some-get_mut.place.now c.put_stepped.new.place _ c.self.view_is c.self.invariant c.in-Some-get_mut.ensures.value (c.get_mut.follows.holds c.put_stepped.new.place).0 c.in_err-told.ensures.err c.in_err-told.ensures.grown

pub returns-in_err-told-clause-err : goal.returns-in_err-told-clause-err
returns-in_err-told-clause-err c = on_err c.from_residual-in_err-told.result _ (node_still _ c.args.self.now c.self.inside.index.keys c.put_stepped.new.index.keys c.self.inside.whole c.args.key.now c.in-Some-get_mut.place.now c.put_stepped.new.place _ c.self.view_is c.self.invariant c.in-Some-get_mut.ensures.value (c.get_mut.follows.holds c.put_stepped.new.place).0 c.in_err-told.ensures.err)

pub invariant_of-self-2 : goal.invariant_of-self-2
invariant_of-self-2 c = indexed_stepped _ c.args.self.now c.self.inside.index.keys c.put_stepped.new.index.keys c.self.inside.whole c.args.key.now c.in-Some-get_mut.place.now c.put_stepped.new.place _ c.self.view_is c.self.invariant c.in-Some-get_mut.ensures.value (c.get_mut.follows.holds c.put_stepped.new.place).0
    c.on_ack-out.new.self c.in_ok-told.ensures.row (ack_put _ c.args.self.now c.in-Some.view (record { ok = c.self.invariant.node; same = c.self.view_is; seen = search rules }) c.args.key.now c.in_ok-row.row (found_copy _ c.args.self.now c.args.key.now _ _ c.self.view_is c.in-Some-get_mut.ensures.value (c.in_ok-row.ensures ∙ c.get.ensures)) c.args.from c.args.stamp c.args.top c.requires.within c.requires.top c.requires.other c.on_ack-out.new.self c.on_ack-out.ensures.row)
    (ack_kept _ c.args.self.now c.in-Some.view (record { ok = c.self.invariant.node; same = c.self.view_is; seen = search rules }) c.args.key.now c.in_ok-row.row (found_copy _ c.args.self.now c.args.key.now _ _ c.self.view_is c.in-Some-get_mut.ensures.value (c.in_ok-row.ensures ∙ c.get.ensures)) c.args.from c.args.stamp c.args.top c.requires.within c.requires.top c.requires.other c.on_ack-out.new.self c.on_ack-out.ensures.row) c.in_ok-told.ensures.listed

pub returns-clause-node : goal.returns-clause-node
returns-clause-node c = node_stepped _ c.args.self.now c.self.inside.index.keys c.put_stepped.new.index.keys c.self.inside.whole c.args.key.now c.in-Some-get_mut.place.now c.put_stepped.new.place _ c.self.view_is c.self.invariant c.in-Some-get_mut.ensures.value (c.get_mut.follows.holds c.put_stepped.new.place).0
    c.on_ack-out.new.self c.in_ok-told.ensures.row (ack_put _ c.args.self.now c.in-Some.view (record { ok = c.self.invariant.node; same = c.self.view_is; seen = search rules }) c.args.key.now c.in_ok-row.row (found_copy _ c.args.self.now c.args.key.now _ _ c.self.view_is c.in-Some-get_mut.ensures.value (c.in_ok-row.ensures ∙ c.get.ensures)) c.args.from c.args.stamp c.args.top c.requires.within c.requires.top c.requires.other c.on_ack-out.new.self c.on_ack-out.ensures.row)
    ∙ ap (λ (t : Stepped). t.node) (ack_made _ c.args.self.now c.in-Some.view (record { ok = c.self.invariant.node; same = c.self.view_is; seen = search rules }) c.args.key.now c.in_ok-row.row (found_copy _ c.args.self.now c.args.key.now _ _ c.self.view_is c.in-Some-get_mut.ensures.value (c.in_ok-row.ensures ∙ c.get.ensures)) c.args.from c.args.stamp c.args.top c.requires.within c.requires.top c.requires.other c.on_ack-out.new.self c.on_ack-out.result c.on_ack-out.ensures.row c.on_ack-out.ensures.out)

pub returns-clause-out : goal.returns-clause-out
returns-clause-out c = subst (λ (t : Stepped). IsOutOf c.in_ok-told.told c.args.self.now t)
    (ack_made _ c.args.self.now c.in-Some.view (record { ok = c.self.invariant.node; same = c.self.view_is; seen = search rules }) c.args.key.now c.in_ok-row.row (found_copy _ c.args.self.now c.args.key.now _ _ c.self.view_is c.in-Some-get_mut.ensures.value (c.in_ok-row.ensures ∙ c.get.ensures)) c.args.from c.args.stamp c.args.top c.requires.within c.requires.top c.requires.other c.on_ack-out.new.self c.on_ack-out.result c.on_ack-out.ensures.row c.on_ack-out.ensures.out)
    (told_of_node c.args.self.now _ c.in-Some.view c.args.key.now c.in-Some-get_mut.place.now _ c.in_ok-told.told c.self.view_is (search rules) c.self.invariant.node (sym c.in-Some-get_mut.ensures.value)
    (subst (λ (n : NodeState). IsMade n.rows c.args.key.now c.on_ack-out.new.self) (sym c.self.view_is) (ack_put _ c.args.self.now c.in-Some.view (record { ok = c.self.invariant.node; same = c.self.view_is; seen = search rules }) c.args.key.now c.in_ok-row.row (found_copy _ c.args.self.now c.args.key.now _ _ c.self.view_is c.in-Some-get_mut.ensures.value (c.in_ok-row.ensures ∙ c.get.ensures)) c.args.from c.args.stamp c.args.top c.requires.within c.requires.top c.requires.other c.on_ack-out.new.self c.on_ack-out.ensures.row)) c.in_ok-told.ensures.told)
