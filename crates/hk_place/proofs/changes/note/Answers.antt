use Rattle.std.proofs.Common.{◌≡◌, ℕ, List, [], ◌∷◌, ◌++◌, Option, Some, None, unwrap_or, refl, sym, ap, subst, ◌∙◌}
use Rattle.std.specs.Option.{IsSome}
use Rattle.std.specs.BTreeMap.{is_at}
use Rattle.std.specs.Map.{lookup}
use Rattle.hk_copy.specs.Batches.{key_cmp}
use Rattle.hk_place.proofs.Noting.{on_ok, noted, put_first}
use Rattle.hk_place.proofs.changes.note.Goals as goal

pub returns-in-Some : goal.returns-in-Some
returns-in-Some c =
    let key = c.args.key.now in
    let found : lookup (is_at (key_cmp key)) c.args.kept.now.entries ≡ Some c.in-Some.tickets.now = sym c.in-Some.ensures.value in
    let put = c.get_mut.follows.holds c.push.new.self in
    on_ok c.push.result
    (λ pushed.
    noted c.args.kept.now.entries (c.get_mut.follows.lender c.push.new.self).entries key c.push.new.self c.args.ticket (put.3 (subst IsSome (sym found) refl)).0
    (pushed ∙ sym (ap (λ (o : Option (List ℕ)). unwrap_or o [] ++ c.args.ticket ∷ []) found)))
    c.push.ensures.ok

pub returns : goal.returns
returns c =
    let key = c.args.key.now in
    let none : lookup (is_at (key_cmp key)) c.args.kept.now.entries ≡ None = sym c.in_default.ensures.value in
    let put = put_first c.args.kept.now c.get_mut.follows.lender-at-none c.insert.new.self key c.in_ok-key.key c.in_ok-tickets.tickets c.get_mut.follows.holds-at-none c.in_ok-key.ensures
    c.in_ok-insert.ensures.updates in
    noted c.args.kept.now.entries c.insert.new.self.entries key c.in_ok-tickets.tickets c.args.ticket put
    (c.in_ok-tickets.ensures ∙ sym (ap (λ (o : Option (List ℕ)). unwrap_or o [] ++ c.args.ticket ∷ []) none))
