use Rattle.std.proofs.Common.{◌∙◌, ◌≡◌, ◌+◌, ◌<◌, Bool, false, nat_lt, Some, Ok, IfOk, OnOk, refl, sym, ap, subst, rules}
use Rattle.hk_key.specs.declared.row.Row.{Row}
use Rattle.hk_node.specs.Node.{NodeState}
use Rattle.hk_node.specs.Calls.{answers, at_lease, called, lease_end}
use Rattle.hk_node.specs.Decided.{decided, IsFit}
use Rattle.hk_node.specs.Report.{IsMade}
use Rattle.hk_node.specs.Stepped.{Stepped}
use Rattle.hk_node.specs.Sound.{IsNode}
use Rattle.hk_node.specs.Outs.{IsOutOf}
use Rattle.hk_node.proofs.Again.{found_within, decides_found, row_of_found}
use Rattle.hk_node.proofs.Finishing.{found_now, answered_now, answered_out, begin_kept, begin_put, begin_made}
use Rattle.hk_node.proofs.Parts.{leased_is_ready}
use Rattle.hk_node.proofs.Places.{made_same, told_of_node, on_err, node_still, indexed_still, node_stepped, indexed_stepped}
use Rattle.hk_node.proofs.node.Node.call.Goals as goal

pub decide-requires : goal.decide-requires
decide-requires c = found_within _ c.args.self.now c.args.key.now c.get.result.now c.self.invariant.node c.self.view_is (found_now _ c.args.self.now c.args.key.now _ c.self.view_is c.in-Some-get_mut.ensures.value ∙ ap Some (sym c.get.ensures))

pub invariant_of-self-in_err-answer : goal.invariant_of-self-in_err-answer
invariant_of-self-in_err-answer c = indexed_still _ c.args.self.now c.self.inside.index.keys c.self.inside.index.keys c.self.inside.whole c.args.key.now c.in-Some-get_mut.place.now c.in-Some-get_mut.place.now _ c.self.view_is c.self.invariant c.in-Some-get_mut.ensures.value (c.get_mut.follows.holds c.in-Some-get_mut.place.now).0 refl (λ k h. h)

pub returns-in_err-answer-clause-err : goal.returns-in_err-answer-clause-err
returns-in_err-answer-clause-err c = on_err c.from_residual.result _ (node_still _ c.args.self.now c.self.inside.index.keys c.self.inside.index.keys c.self.inside.whole c.args.key.now c.in-Some-get_mut.place.now c.in-Some-get_mut.place.now _ c.self.view_is c.self.invariant c.in-Some-get_mut.ensures.value (c.get_mut.follows.holds c.in-Some-get_mut.place.now).0 refl)

pub invariant_of-self-in-Now : goal.invariant_of-self-in-Now
invariant_of-self-in-Now c = indexed_still _ c.args.self.now c.self.inside.index.keys c.self.inside.index.keys c.self.inside.whole c.args.key.now c.in-Some-get_mut.place.now c.in-Some-get_mut.place.now _ c.self.view_is c.self.invariant c.in-Some-get_mut.ensures.value (c.get_mut.follows.holds c.in-Some-get_mut.place.now).0 refl (λ k h. h)

pub invariant_of-self-in_err-out-in-Begin : goal.invariant_of-self-in_err-out-in-Begin
invariant_of-self-in_err-out-in-Begin c = indexed_still _ c.args.self.now c.self.inside.index.keys c.self.inside.index.keys c.self.inside.whole c.args.key.now c.in-Some-get_mut.place.now c.in-Some-get_mut.place.now _ c.self.view_is c.self.invariant c.in-Some-get_mut.ensures.value (c.get_mut.follows.holds c.in-Some-get_mut.place.now).0 refl (λ k h. h)

pub returns-in_err-out-in-Begin-clause-err : goal.returns-in_err-out-in-Begin-clause-err
returns-in_err-out-in-Begin-clause-err c = on_err c.from_residual-in_err-out-in-Begin.result _ (node_still _ c.args.self.now c.self.inside.index.keys c.self.inside.index.keys c.self.inside.whole c.args.key.now c.in-Some-get_mut.place.now c.in-Some-get_mut.place.now _ c.self.view_is c.self.invariant c.in-Some-get_mut.ensures.value (c.get_mut.follows.holds c.in-Some-get_mut.place.now).0 refl)

pub put_stepped-requires : goal.put_stepped-requires
put_stepped-requires c = record {
  same = made_same c.args.key.now c.in-Some-get_mut.place.now c.begin.new.self c.args.self.now.rows (found_now _ c.args.self.now c.args.key.now _ c.self.view_is c.in-Some-get_mut.ensures.value) (begin_put c.self.inside.id c.args.self.now c.in-Some.view c.args.key.now (record { call = c.args.call; answer = c.in-Begin.answer }) c.in-Begin.stamp c.in-Begin.kind c.in-Begin.content c.begin.new.self
      (subst (λ (r : Row). r.stamp.version < c.in-Begin.stamp.version) (sym (row_of_found c.args.key.now _ c.args.self.now.rows (found_now _ c.args.self.now c.args.key.now _ c.self.view_is c.in-Some-get_mut.ensures.value ∙ ap Some (sym c.get.ensures)))) (subst (IsFit c.get.result.now) c.in-Begin.is c.in_ok-answer.ensures.fit).1) c.in_ok-out-in-Begin.ensures.row);
}

pub invariant_of-self-in_err-told-in-Begin : goal.invariant_of-self-in_err-told-in-Begin
invariant_of-self-in_err-told-in-Begin c = indexed_still _ c.args.self.now c.self.inside.index.keys c.put_stepped.new.index.keys c.self.inside.whole c.args.key.now c.in-Some-get_mut.place.now c.put_stepped.new.place _ c.self.view_is c.self.invariant c.in-Some-get_mut.ensures.value (c.get_mut.follows.holds c.put_stepped.new.place).0 c.in_err-told-in-Begin.ensures.err c.in_err-told-in-Begin.ensures.grown

pub returns-in_err-told-in-Begin-clause-err : goal.returns-in_err-told-in-Begin-clause-err
returns-in_err-told-in-Begin-clause-err c = on_err c.from_residual-in_err-told-in-Begin.result _
    (node_still _ c.args.self.now c.self.inside.index.keys c.put_stepped.new.index.keys c.self.inside.whole c.args.key.now c.in-Some-get_mut.place.now c.put_stepped.new.place _ c.self.view_is c.self.invariant c.in-Some-get_mut.ensures.value (c.get_mut.follows.holds c.put_stepped.new.place).0 c.in_err-told-in-Begin.ensures.err)

pub invariant_of-self-in-Begin : goal.invariant_of-self-in-Begin
invariant_of-self-in-Begin c =
    let over : nat_lt (lease_end c.args.self.now) (c.args.self.now.clock + c.args.self.now.skew) ≡ false = search rules in
    indexed_stepped _ c.args.self.now c.self.inside.index.keys c.put_stepped.new.index.keys c.self.inside.whole c.args.key.now c.in-Some-get_mut.place.now c.put_stepped.new.place _ c.self.view_is c.self.invariant c.in-Some-get_mut.ensures.value (c.get_mut.follows.holds c.put_stepped.new.place).0
    c.begin.new.self c.in_ok-told-in-Begin.ensures.row (begin_put c.self.inside.id c.args.self.now c.in-Some.view c.args.key.now (record { call = c.args.call; answer = c.in-Begin.answer }) c.in-Begin.stamp c.in-Begin.kind c.in-Begin.content c.begin.new.self
    (subst (λ (r : Row). r.stamp.version < c.in-Begin.stamp.version) (sym (row_of_found c.args.key.now _ c.args.self.now.rows (found_now _ c.args.self.now c.args.key.now _ c.self.view_is c.in-Some-get_mut.ensures.value ∙ ap Some (sym c.get.ensures)))) (subst (IsFit c.get.result.now) c.in-Begin.is c.in_ok-answer.ensures.fit).1) c.in_ok-out-in-Begin.ensures.row)
    (begin_kept _ c.args.self.now c.in-Some.view c.args.key.now (record { call = c.args.call; answer = c.in-Begin.answer }) c.in-Begin.stamp c.in-Begin.kind c.in-Begin.content c.begin.new.self c.self.invariant.node c.self.view_is (search rules) (leased_is_ready c.args.self.now (subst IsNode c.self.view_is c.self.invariant.node) over)
    (subst (IsFit c.get.result.now) c.in-Begin.is c.in_ok-answer.ensures.fit).0 (subst (λ (r : Row). r.stamp.version < c.in-Begin.stamp.version) (sym (row_of_found c.args.key.now _ c.args.self.now.rows (found_now _ c.args.self.now c.args.key.now _ c.self.view_is c.in-Some-get_mut.ensures.value ∙ ap Some (sym c.get.ensures)))) (subst (IsFit c.get.result.now) c.in-Begin.is c.in_ok-answer.ensures.fit).1) (subst (IsFit c.get.result.now) c.in-Begin.is c.in_ok-answer.ensures.fit).2 c.in_ok-out-in-Begin.ensures.row) c.in_ok-told-in-Begin.ensures.listed

pub returns-in-Now-clause-node : goal.returns-in-Now-clause-node
returns-in-Now-clause-node c =
    let over : nat_lt (lease_end c.args.self.now) (c.args.self.now.clock + c.args.self.now.skew) ≡ false = search rules in
    subst (λ (n : NodeState). n ≡ (called c.args.self.now c.args.call c.args.key.now c.args.op.now).node) (sym (node_still _ c.args.self.now c.self.inside.index.keys c.self.inside.index.keys c.self.inside.whole c.args.key.now c.in-Some-get_mut.place.now c.in-Some-get_mut.place.now _ c.self.view_is c.self.invariant c.in-Some-get_mut.ensures.value (c.get_mut.follows.holds c.in-Some-get_mut.place.now).0 refl))
    (answered_now (Ok c.answers-in-Now.result) c.args.self.now c.args.call c.args.key.now c.args.op.now c.in-Now.answer over
    (sym (ap (λ d. decided d c.args.self.now c.args.call c.args.key.now) c.in-Now.is) ∙ decides_found (Ok c.in_ok-answer.field-0) _ c.args.self.now c.args.key.now c.args.op.now c.get.result.now c.self.view_is (found_now _ c.args.self.now c.args.key.now _ c.self.view_is c.in-Some-get_mut.ensures.value ∙ ap Some (sym c.get.ensures)) c.in_ok-answer.ensures.step c.args.call))

pub returns-in-Now-clause-out : goal.returns-in-Now-clause-out
returns-in-Now-clause-out c =
    let over : nat_lt (lease_end c.args.self.now) (c.args.self.now.clock + c.args.self.now.skew) ≡ false = search rules in
    answered_out (Ok c.answers-in-Now.result) c.args.self.now c.args.call c.args.key.now c.args.op.now c.in-Now.answer over
    (sym (ap (λ d. decided d c.args.self.now c.args.call c.args.key.now) c.in-Now.is) ∙ decides_found (Ok c.in_ok-answer.field-0) _ c.args.self.now c.args.key.now c.args.op.now c.get.result.now c.self.view_is (found_now _ c.args.self.now c.args.key.now _ c.self.view_is c.in-Some-get_mut.ensures.value ∙ ap Some (sym c.get.ensures)) c.in_ok-answer.ensures.step c.args.call)
    (subst (λ (n : NodeState). IsOutOf c.answers-in-Now.result n (answers n c.args.key.now c.args.call c.in-Now.answer)) (node_still _ c.args.self.now c.self.inside.index.keys c.self.inside.index.keys c.self.inside.whole c.args.key.now c.in-Some-get_mut.place.now c.in-Some-get_mut.place.now _ c.self.view_is c.self.invariant c.in-Some-get_mut.ensures.value (c.get_mut.follows.holds c.in-Some-get_mut.place.now).0 refl) c.answers-in-Now.ensures)

pub returns-in_ok-told-in-Begin-clause-node : goal.returns-in_ok-told-in-Begin-clause-node
returns-in_ok-told-in-Begin-clause-node c =
    let over : nat_lt (lease_end c.args.self.now) (c.args.self.now.clock + c.args.self.now.skew) ≡ false = search rules in
    node_stepped _ c.args.self.now c.self.inside.index.keys c.put_stepped.new.index.keys c.self.inside.whole c.args.key.now c.in-Some-get_mut.place.now c.put_stepped.new.place _ c.self.view_is c.self.invariant c.in-Some-get_mut.ensures.value (c.get_mut.follows.holds c.put_stepped.new.place).0
    c.begin.new.self c.in_ok-told-in-Begin.ensures.row (begin_put c.self.inside.id c.args.self.now c.in-Some.view c.args.key.now (record { call = c.args.call; answer = c.in-Begin.answer }) c.in-Begin.stamp c.in-Begin.kind c.in-Begin.content c.begin.new.self
    (subst (λ (r : Row). r.stamp.version < c.in-Begin.stamp.version) (sym (row_of_found c.args.key.now _ c.args.self.now.rows (found_now _ c.args.self.now c.args.key.now _ c.self.view_is c.in-Some-get_mut.ensures.value ∙ ap Some (sym c.get.ensures)))) (subst (IsFit c.get.result.now) c.in-Begin.is c.in_ok-answer.ensures.fit).1) c.in_ok-out-in-Begin.ensures.row)
    ∙ ap (λ (t : Stepped). t.node) (begin_made _ c.args.self.now c.in-Some.view c.args.key.now (record { call = c.args.call; answer = c.in-Begin.answer }) c.in-Begin.stamp c.in-Begin.kind c.in-Begin.content c.begin.new.self c.in_ok-out-in-Begin.out c.self.view_is (search rules) c.in_ok-out-in-Begin.ensures.row c.in_ok-out-in-Begin.ensures.out
    ∙ sym (ap (λ d. decided d c.args.self.now c.args.call c.args.key.now) c.in-Begin.is) ∙ decides_found (Ok c.in_ok-answer.field-0) _ c.args.self.now c.args.key.now c.args.op.now c.get.result.now c.self.view_is (found_now _ c.args.self.now c.args.key.now _ c.self.view_is c.in-Some-get_mut.ensures.value ∙ ap Some (sym c.get.ensures)) c.in_ok-answer.ensures.step c.args.call ∙ ap (λ (b : Bool). at_lease b c.args.self.now c.args.call c.args.key.now c.args.op.now) (sym over))

pub returns-in_ok-told-in-Begin-clause-out : goal.returns-in_ok-told-in-Begin-clause-out
returns-in_ok-told-in-Begin-clause-out c =
    let over : nat_lt (lease_end c.args.self.now) (c.args.self.now.clock + c.args.self.now.skew) ≡ false = search rules in
    subst (λ (t : Stepped). IsOutOf c.in_ok-told-in-Begin.told c.args.self.now t)
    (begin_made _ c.args.self.now c.in-Some.view c.args.key.now (record { call = c.args.call; answer = c.in-Begin.answer }) c.in-Begin.stamp c.in-Begin.kind c.in-Begin.content c.begin.new.self c.in_ok-out-in-Begin.out c.self.view_is (search rules) c.in_ok-out-in-Begin.ensures.row c.in_ok-out-in-Begin.ensures.out
    ∙ sym (ap (λ d. decided d c.args.self.now c.args.call c.args.key.now) c.in-Begin.is) ∙ decides_found (Ok c.in_ok-answer.field-0) _ c.args.self.now c.args.key.now c.args.op.now c.get.result.now c.self.view_is (found_now _ c.args.self.now c.args.key.now _ c.self.view_is c.in-Some-get_mut.ensures.value ∙ ap Some (sym c.get.ensures)) c.in_ok-answer.ensures.step c.args.call ∙ ap (λ (b : Bool). at_lease b c.args.self.now c.args.call c.args.key.now c.args.op.now) (sym over))
    (told_of_node c.args.self.now _ c.in-Some.view c.args.key.now c.in-Some-get_mut.place.now _ c.in_ok-told-in-Begin.told c.self.view_is (search rules) c.self.invariant.node (sym c.in-Some-get_mut.ensures.value)
    (subst (λ (n : NodeState). IsMade n.rows c.args.key.now c.begin.new.self) (sym c.self.view_is) (begin_put c.self.inside.id c.args.self.now c.in-Some.view c.args.key.now (record { call = c.args.call; answer = c.in-Begin.answer }) c.in-Begin.stamp c.in-Begin.kind c.in-Begin.content c.begin.new.self
    (subst (λ (r : Row). r.stamp.version < c.in-Begin.stamp.version) (sym (row_of_found c.args.key.now _ c.args.self.now.rows (found_now _ c.args.self.now c.args.key.now _ c.self.view_is c.in-Some-get_mut.ensures.value ∙ ap Some (sym c.get.ensures)))) (subst (IsFit c.get.result.now) c.in-Begin.is c.in_ok-answer.ensures.fit).1) c.in_ok-out-in-Begin.ensures.row)) c.in_ok-told-in-Begin.ensures.told)
