use Rattle.std.proofs.Common.{ℕ, suc, ◌<◌, ◌≤◌, ◌-◌, ◌+◌, Some, refl, sym, ap, ◌∙◌, subst, arith}
use Rattle.std.specs.Option.{option_copied}
use Rattle.hk_copy.proofs.Cuts.{recast, one_more, next_room, all_taken, none_is, begins, there, at_end, at_full, at_big, goes_on}
use Rattle.hk_copy.proofs.copying.batch.Goals as goal

pub loop-taken-init : goal.loop-taken-init
loop-taken-init g c = begins (g.R.Rows.rows c.args.rows.now) (option_copied c.args.after) (option_copied c.after-next.result) c.new-items.result c.args.room 2097152
    (c.args.room - 0) (omega arith) c.after-next.ensures.rising c.after-next.ensures.next c.new-items.ensures

pub returns-in_default-clause-items : goal.returns-in_default-clause-items
returns-in_default-clause-items g c = (at_end _ _ (option_copied c.loop-taken.next) _ _ _ (ap option_copied c.in_default.is) c.loop-taken.invariant).items

pub returns-in_default-clause-done : goal.returns-in_default-clause-done
returns-in_default-clause-done g c = (at_end _ _ (option_copied c.loop-taken.next) _ _ _ (ap option_copied c.in_default.is) c.loop-taken.invariant).done

pub item-requires : goal.item-requires
item-requires g c = record {
  there = there _ _ c.in-Some.key.now _ _ _ (recast _ _ _ (Some c.in-Some.key.now) _ _ _ _ _ _ (ap option_copied c.in-Some.is) refl refl refl c.loop-taken.invariant);
}

pub returns-then-size-bytes-clause-items : goal.returns-then-size-bytes-clause-items
returns-then-size-bytes-clause-items g c = (at_big _ _ c.in-Some.key.now c.in_ok-item.item _ (c.args.room - suc c.loop-taken.taken) _
    (subst (λ (n : ℕ). c.loop-taken.bytes < n) c.size-size.ensures c.if-size-bytes.true) c.in_ok-item.ensures.same
    (recast _ _ _ (Some c.in-Some.key.now) _ _ _ (suc (c.args.room - suc c.loop-taken.taken)) _ _ (ap option_copied c.in-Some.is) refl (one_more c.loop-taken.taken c.args.room c.loop-taken-test.true) refl c.loop-taken.invariant)).items

pub returns-then-size-bytes-clause-done : goal.returns-then-size-bytes-clause-done
returns-then-size-bytes-clause-done g c = (at_big _ _ c.in-Some.key.now c.in_ok-item.item _ (c.args.room - suc c.loop-taken.taken) _
    (subst (λ (n : ℕ). c.loop-taken.bytes < n) c.size-size.ensures c.if-size-bytes.true) c.in_ok-item.ensures.same
    (recast _ _ _ (Some c.in-Some.key.now) _ _ _ (suc (c.args.room - suc c.loop-taken.taken)) _ _ (ap option_copied c.in-Some.is) refl (one_more c.loop-taken.taken c.args.room c.loop-taken-test.true) refl c.loop-taken.invariant)).done

pub loop-taken-preserved : goal.loop-taken-preserved
loop-taken-preserved g c =
    recast _ _ _ (option_copied c.after-next-in-loop-taken.result) _ c.push.new.self _ (c.args.room - (c.loop-taken.taken + 1)) _ (c.loop-taken.bytes - c.size-size.result)
    refl (sym c.in_ok-push.ensures.ok) (next_room c.loop-taken.taken c.args.room) (ap (λ (n : ℕ). c.loop-taken.bytes - n) (sym c.size-size.ensures))
    (goes_on _ _ c.in-Some.key.now (option_copied c.after-next-in-loop-taken.result) c.in_ok-item.item c.loop-taken.items (c.args.room - suc c.loop-taken.taken) c.loop-taken.bytes
    (subst (λ (n : ℕ). n ≤ c.loop-taken.bytes) c.size-size.ensures c.if-size-bytes.false) c.in_ok-item.ensures.same c.after-next-in-loop-taken.ensures.next
    (recast _ _ _ (Some c.in-Some.key.now) _ _ _ (suc (c.args.room - suc c.loop-taken.taken)) _ _ (ap option_copied c.in-Some.is) refl (one_more c.loop-taken.taken c.args.room c.loop-taken-test.true) refl c.loop-taken.invariant))

pub returns-clause-items : goal.returns-clause-items
returns-clause-items g c = (at_full _ _ (option_copied c.loop-taken.next) _ _ (recast _ _ _ _ _ _ _ 0 _ _ refl refl (all_taken c.loop-taken.taken c.args.room c.loop-taken-test.false) refl c.loop-taken.invariant)).items

pub returns-clause-done : goal.returns-clause-done
returns-clause-done g c = sym (none_is c.loop-taken.next c.is_none.result c.is_none.ensures)
    ∙ (at_full _ _ (option_copied c.loop-taken.next) _ _ (recast _ _ _ _ _ _ _ 0 _ _ refl refl (all_taken c.loop-taken.taken c.args.room c.loop-taken-test.false) refl c.loop-taken.invariant)).done
