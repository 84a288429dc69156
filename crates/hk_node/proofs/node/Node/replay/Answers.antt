use Rattle.std.proofs.Common.{◌∙◌, ◌≡◌, true, Some, refl, sym, ap, subst, rules}
use Rattle.hk_node.specs.Node.{NodeState}
use Rattle.hk_node.specs.Report.{IsMade}
use Rattle.hk_node.specs.Stepped.{Stepped, idle}
use Rattle.hk_node.specs.Sound.{IsNode}
use Rattle.hk_node.specs.Outs.{IsOutOf}
use Rattle.hk_node.proofs.Again.{sound_inside, replayed_still, replay_kept, replay_put, replay_made}
use Rattle.hk_node.proofs.Finishing.{found_now, idle_as, idle_node}
use Rattle.hk_node.proofs.Places.{made_same, told_of_node, found_copy, on_err, node_still, indexed_still, node_stepped, indexed_stepped}
use Rattle.hk_node.proofs.node.Node.replay.Goals as goal

pub invariant_of-self-then-not-is_invalid : goal.invariant_of-self-then-not-is_invalid
invariant_of-self-then-not-is_invalid c = indexed_still _ c.args.self.now c.self.inside.index.keys c.self.inside.index.keys c.self.inside.whole c.args.key.now c.in-Some-get_mut.place.now c.in-Some-get_mut.place.now _ c.self.view_is c.self.invariant c.in-Some-get_mut.ensures.value (c.get_mut.follows.holds c.in-Some-get_mut.place.now).0 refl (λ k h. h)

pub returns-then-not-is_invalid-clause-node : goal.returns-then-not-is_invalid-clause-node
returns-then-not-is_invalid-clause-node c =
    let ready : c.args.self.now.ready ≡ true = search rules in
    (node_still _ c.args.self.now c.self.inside.index.keys c.self.inside.index.keys c.self.inside.whole c.args.key.now c.in-Some-get_mut.place.now c.in-Some-get_mut.place.now _ c.self.view_is c.self.invariant c.in-Some-get_mut.ensures.value (c.get_mut.follows.holds c.in-Some-get_mut.place.now).0 refl)
    ∙ idle_node c.args.self.now _ (replayed_still c.args.self.now c.args.key.now c.get.result.now (subst IsNode c.self.view_is c.self.invariant.node).ordered ready (found_now _ c.args.self.now c.args.key.now _ c.self.view_is c.in-Some-get_mut.ensures.value ∙ ap Some (sym c.get.ensures)) (search rules))

pub returns-then-not-is_invalid-clause-out : goal.returns-then-not-is_invalid-clause-out
returns-then-not-is_invalid-clause-out c =
    let ready : c.args.self.now.ready ≡ true = search rules in
    idle_as c.idle-then-not-is_invalid.result c.args.self.now _ (replayed_still c.args.self.now c.args.key.now c.get.result.now (subst IsNode c.self.view_is c.self.invariant.node).ordered ready (found_now _ c.args.self.now c.args.key.now _ c.self.view_is c.in-Some-get_mut.ensures.value ∙ ap Some (sym c.get.ensures)) (search rules))
    (subst (λ (n : NodeState). IsOutOf c.idle-then-not-is_invalid.result n (idle n)) (node_still _ c.args.self.now c.self.inside.index.keys c.self.inside.index.keys c.self.inside.whole c.args.key.now c.in-Some-get_mut.place.now c.in-Some-get_mut.place.now _ c.self.view_is c.self.invariant c.in-Some-get_mut.ensures.value (c.get_mut.follows.holds c.in-Some-get_mut.place.now).0 refl) c.idle-then-not-is_invalid.ensures)

pub invariant_of-self-in_err-row : goal.invariant_of-self-in_err-row
invariant_of-self-in_err-row c = indexed_still _ c.args.self.now c.self.inside.index.keys c.self.inside.index.keys c.self.inside.whole c.args.key.now c.in-Some-get_mut.place.now c.in-Some-get_mut.place.now _ c.self.view_is c.self.invariant c.in-Some-get_mut.ensures.value (c.get_mut.follows.holds c.in-Some-get_mut.place.now).0 refl (λ k h. h)

pub returns-in_err-row-clause-err : goal.returns-in_err-row-clause-err
returns-in_err-row-clause-err c = on_err c.from_residual.result _ (node_still _ c.args.self.now c.self.inside.index.keys c.self.inside.index.keys c.self.inside.whole c.args.key.now c.in-Some-get_mut.place.now c.in-Some-get_mut.place.now _ c.self.view_is c.self.invariant c.in-Some-get_mut.ensures.value (c.get_mut.follows.holds c.in-Some-get_mut.place.now).0 refl)

pub replay-requires : goal.replay-requires
replay-requires c = record {
  sound = sound_inside _ c.args.self.now c.in-Some.view (record { ok = c.self.invariant.node; same = c.self.view_is; seen = search rules }) c.args.key.now c.in_ok-row.row
      (found_copy _ c.args.self.now c.args.key.now _ _ c.self.view_is c.in-Some-get_mut.ensures.value (c.in_ok-row.ensures ∙ c.get-2.ensures));
}

pub invariant_of-self-in_err-out : goal.invariant_of-self-in_err-out
invariant_of-self-in_err-out c = indexed_still _ c.args.self.now c.self.inside.index.keys c.self.inside.index.keys c.self.inside.whole c.args.key.now c.in-Some-get_mut.place.now c.in-Some-get_mut.place.now _ c.self.view_is c.self.invariant c.in-Some-get_mut.ensures.value (c.get_mut.follows.holds c.in-Some-get_mut.place.now).0 refl (λ k h. h)

pub returns-in_err-out-clause-err : goal.returns-in_err-out-clause-err
returns-in_err-out-clause-err c = on_err c.from_residual-in_err-out.result _ (node_still _ c.args.self.now c.self.inside.index.keys c.self.inside.index.keys c.self.inside.whole c.args.key.now c.in-Some-get_mut.place.now c.in-Some-get_mut.place.now _ c.self.view_is c.self.invariant c.in-Some-get_mut.ensures.value (c.get_mut.follows.holds c.in-Some-get_mut.place.now).0 refl)

pub put_stepped-requires : goal.put_stepped-requires
put_stepped-requires c = record {
  same = made_same c.args.key.now c.in-Some-get_mut.place.now c.replay.new.self c.args.self.now.rows (found_now _ c.args.self.now c.args.key.now _ c.self.view_is c.in-Some-get_mut.ensures.value) (replay_put _ c.args.self.now c.in-Some.view (record { ok = c.self.invariant.node; same = c.self.view_is; seen = search rules }) c.args.key.now c.in_ok-row.row
      (found_copy _ c.args.self.now c.args.key.now _ _ c.self.view_is c.in-Some-get_mut.ensures.value (c.in_ok-row.ensures ∙ c.get-2.ensures)) c.replay.new.self c.in_ok-out.ensures.row);
}

pub invariant_of-self-in_err-told : goal.invariant_of-self-in_err-told
invariant_of-self-in_err-told c = indexed_still _ c.args.self.now c.self.inside.index.keys c.put_stepped.new.index.keys c.self.inside.whole c.args.key.now c.in-Some-get_mut.place.now c.put_stepped.new.place _ c.self.view_is c.self.invariant c.in-Some-get_mut.ensures.value (c.get_mut.follows.holds c.put_stepped.new.place).0 c.in_err-told.ensures.err c.in_err-told.ensures.grown

pub returns-in_err-told-clause-err : goal.returns-in_err-told-clause-err
returns-in_err-told-clause-err c = on_err c.from_residual-in_err-told.result _ (node_still _ c.args.self.now c.self.inside.index.keys c.put_stepped.new.index.keys c.self.inside.whole c.args.key.now c.in-Some-get_mut.place.now c.put_stepped.new.place _ c.self.view_is c.self.invariant c.in-Some-get_mut.ensures.value (c.get_mut.follows.holds c.put_stepped.new.place).0 c.in_err-told.ensures.err)

pub invariant_of-self-2 : goal.invariant_of-self-2
invariant_of-self-2 c =
    let ready : c.args.self.now.ready ≡ true = search rules in
    indexed_stepped _ c.args.self.now c.self.inside.index.keys c.put_stepped.new.index.keys c.self.inside.whole c.args.key.now c.in-Some-get_mut.place.now c.put_stepped.new.place _ c.self.view_is c.self.invariant c.in-Some-get_mut.ensures.value (c.get_mut.follows.holds c.put_stepped.new.place).0
    c.replay.new.self c.in_ok-told.ensures.row (replay_put _ c.args.self.now c.in-Some.view (record { ok = c.self.invariant.node; same = c.self.view_is; seen = search rules }) c.args.key.now c.in_ok-row.row
    (found_copy _ c.args.self.now c.args.key.now _ _ c.self.view_is c.in-Some-get_mut.ensures.value (c.in_ok-row.ensures ∙ c.get-2.ensures)) c.replay.new.self c.in_ok-out.ensures.row)
    (replay_kept _ c.args.self.now c.in-Some.view (record { ok = c.self.invariant.node; same = c.self.view_is; seen = search rules }) c.args.key.now c.in_ok-row.row
    (found_copy _ c.args.self.now c.args.key.now _ _ c.self.view_is c.in-Some-get_mut.ensures.value (c.in_ok-row.ensures ∙ c.get-2.ensures)) c.replay.new.self ready c.in_ok-out.ensures.row) c.in_ok-told.ensures.listed

pub returns-clause-node : goal.returns-clause-node
returns-clause-node c =
    let ready : c.args.self.now.ready ≡ true = search rules in
    node_stepped _ c.args.self.now c.self.inside.index.keys c.put_stepped.new.index.keys c.self.inside.whole c.args.key.now c.in-Some-get_mut.place.now c.put_stepped.new.place _ c.self.view_is c.self.invariant c.in-Some-get_mut.ensures.value (c.get_mut.follows.holds c.put_stepped.new.place).0
    c.replay.new.self c.in_ok-told.ensures.row (replay_put _ c.args.self.now c.in-Some.view (record { ok = c.self.invariant.node; same = c.self.view_is; seen = search rules }) c.args.key.now c.in_ok-row.row
    (found_copy _ c.args.self.now c.args.key.now _ _ c.self.view_is c.in-Some-get_mut.ensures.value (c.in_ok-row.ensures ∙ c.get-2.ensures)) c.replay.new.self c.in_ok-out.ensures.row)
    ∙ ap (λ (t : Stepped). t.node) (replay_made _ c.args.self.now c.in-Some.view (record { ok = c.self.invariant.node; same = c.self.view_is; seen = search rules }) c.args.key.now c.in_ok-row.row
    (found_copy _ c.args.self.now c.args.key.now _ _ c.self.view_is c.in-Some-get_mut.ensures.value (c.in_ok-row.ensures ∙ c.get-2.ensures)) c.replay.new.self c.in_ok-out.out ready c.in_ok-out.ensures.row c.in_ok-out.ensures.out)

pub returns-clause-out : goal.returns-clause-out
returns-clause-out c =
    let ready : c.args.self.now.ready ≡ true = search rules in
    subst (λ (t : Stepped). IsOutOf c.in_ok-told.told c.args.self.now t)
    (replay_made _ c.args.self.now c.in-Some.view (record { ok = c.self.invariant.node; same = c.self.view_is; seen = search rules }) c.args.key.now c.in_ok-row.row
    (found_copy _ c.args.self.now c.args.key.now _ _ c.self.view_is c.in-Some-get_mut.ensures.value (c.in_ok-row.ensures ∙ c.get-2.ensures)) c.replay.new.self c.in_ok-out.out ready c.in_ok-out.ensures.row c.in_ok-out.ensures.out)
    (told_of_node c.args.self.now _ c.in-Some.view c.args.key.now c.in-Some-get_mut.place.now _ c.in_ok-told.told c.self.view_is (search rules) c.self.invariant.node (sym c.in-Some-get_mut.ensures.value)
    (subst (λ (n : NodeState). IsMade n.rows c.args.key.now c.replay.new.self) (sym c.self.view_is) (replay_put _ c.args.self.now c.in-Some.view (record { ok = c.self.invariant.node; same = c.self.view_is; seen = search rules }) c.args.key.now c.in_ok-row.row
    (found_copy _ c.args.self.now c.args.key.now _ _ c.self.view_is c.in-Some-get_mut.ensures.value (c.in_ok-row.ensures ∙ c.get-2.ensures)) c.replay.new.self c.in_ok-out.ensures.row)) c.in_ok-told.ensures.told)
