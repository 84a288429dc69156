use Rattle.std.proofs.Common.{◌≡◌, Some, None, refl, sym, ap, subst}
use Rattle.std.specs.Option.{IsSome}
use Rattle.hk_safety.specs.Kept.{find_key}
use Rattle.hk_safety.proofs.Puts.{on_ok, put_at}
use Rattle.hk_safety.proofs.Covering.{are_at, are_absent}
use Rattle.hk_safety.proofs.cover.cover_tag.Goals as goal

pub returns-in-Some : goal.returns-in-Some
returns-in-Some c =
    let found : find_key c.args.key.now c.args.keys.now.entries ≡ Some c.in-Some.run'.now = sym c.in-Some.ensures.value in
    let put = c.get_mut.follows.holds c.cover.new.self in
    let new = (c.get_mut.follows.lender c.cover.new.self).entries in
    on_ok c.cover.result (are_at c.args.view.now c.args.cover c.args.keys.now.entries new c.args.key.now c.args.tag c.in-Some.run'.now c.cover.new.self found put.1
    (put_at c.args.keys.now (c.get_mut.follows.lender c.cover.new.self) c.args.key.now c.cover.new.self (put.3 (subst IsSome (sym found) refl)))) c.cover.ensures

pub returns-in-None : goal.returns-in-None
returns-in-None c =
    let none : find_key c.args.key.now c.args.keys.now.entries ≡ None = sym c.in-None.ensures.value in
    are_absent c.args.view.now c.args.cover c.args.keys.now.entries c.get_mut.follows.lender-at-none.entries c.args.key.now c.args.tag none
    (ap (λ m. m.entries) c.get_mut.follows.holds-at-none)
