use Rattle.std.proofs.Common.{rules, ◌≡◌, ℕ, List, true, false, Option, Some, None, unwrap_or, refl, sym, ap, subst, ◌∙◌}
use Rattle.std.specs.Option.{is_some}
use Rattle.std.specs.BTreeMap.{is_at}
use Rattle.std.specs.Map.{lookup}
use Rattle.hk_copy.specs.Batches.{key_cmp}
use Rattle.hk_due.specs.Keys.{OpenState, since_of}
use Rattle.hk_due.proofs.Options.{some_is_itself, none_is_none, on_err}
use Rattle.hk_due.proofs.keys.OpenKeys.keep.Goals as goal

pub returns-then-contains_key-clause-kept : goal.returns-then-contains_key-clause-kept
returns-then-contains_key-clause-kept c =
    let there : is_some (since_of c.args.key.now c.args.self.now) ≡ true = rw (sym c.self.view_is) (sym c.contains_key.ensures ∙ c.if-contains_key.true) in
    (record { there = some_is_itself (since_of c.args.key.now c.args.self.now) c.args.ticket there; whole = refl }, λ other apart. refl)

pub returns-in_err-key-clause-absent : goal.returns-in_err-key-clause-absent
returns-in_err-key-clause-absent c =
    let gone : is_some (since_of c.args.key.now c.args.self.now) ≡ false = rw (sym c.self.view_is) (sym c.contains_key.ensures ∙ c.if-contains_key.false) in
    on_err c.from_residual.result (none_is_none (since_of c.args.key.now c.args.self.now) gone)

pub returns-in_err-insert-clause-absent : goal.returns-in_err-insert-clause-absent
returns-in_err-insert-clause-absent c =
    let gone : is_some (since_of c.args.key.now c.args.self.now) ≡ false = rw (sym c.self.view_is) (sym c.contains_key.ensures ∙ c.if-contains_key.false) in
    on_err c.from_residual-in_err-insert.result (none_is_none (since_of c.args.key.now c.args.self.now) gone)

pub returns-clause-kept : goal.returns-clause-kept
returns-clause-kept c =
    let gone : is_some (since_of c.args.key.now c.args.self.now) ≡ false = rw (sym c.self.view_is) (sym c.contains_key.ensures ∙ c.if-contains_key.false) in
    let none : since_of c.args.key.now c.args.self.now ≡ None = none_is_none (since_of c.args.key.now c.args.self.now) gone in
    let same : c.in_ok-key.key ≡ c.args.key.now = search rules in (
      record {
        there = subst (λ (k : List ℕ). lookup (is_at (key_cmp k)) c.insert.new.self.entries ≡ Some c.args.ticket) same c.in_ok-insert.ensures.updates.1 ∙ ap (λ (o : Option ℕ). Some (unwrap_or o c.args.ticket)) (sym none);
        whole = ap (λ (o : OpenState). o.whole) c.self.view_is;
      },
      λ other apart. rw (sym c.self.view_is) (c.in_ok-insert.ensures.updates.2 other (subst (λ (k : List ℕ). is_at (key_cmp k) other ≡ false) (sym same) apart)),
    )
