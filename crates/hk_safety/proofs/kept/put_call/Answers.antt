use Rattle.std.proofs.Common.{◌≡◌, Some, None, refl, sym, subst}
use Rattle.std.specs.Option.{IsSome}
use Rattle.hk_safety.specs.Kept.{KeyState, find_key}
use Rattle.hk_safety.specs.Grown.{IsTaken}
use Rattle.hk_safety.proofs.Puts.{on_ok, put_at, first_put}
use Rattle.hk_safety.proofs.Answering.{named_there, named_first}
use Rattle.hk_safety.proofs.kept.put_call.Goals as goal

pub returns-in-Some : goal.returns-in-Some
returns-in-Some c =
    let found : find_key c.args.key.now c.args.keys.now.entries ≡ Some c.in-Some.run'.now = sym c.in-Some.ensures.value in
    let put = c.get_mut.follows.holds c.take.new.self in
    on_ok c.take.result (named_there c.args.keys.now.entries _ c.args.key.now c.in-Some.run'.now c.take.new.self c.args.turn c.args.op.now
    c.get_mut.ensures.ordered found put.1
    (put_at c.args.keys.now (c.get_mut.follows.lender c.take.new.self) c.args.key.now c.take.new.self (put.3 (subst IsSome (sym found) refl)))) c.take.ensures

pub returns : goal.returns
returns c =
    let none : find_key c.args.key.now c.args.keys.now.entries ≡ None = sym c.in_default.ensures.value in
    let put = first_put c.args.keys.now c.get_mut.follows.lender-at-none c.insert.new.self c.args.key.now c.in_ok-name.name c.take-2.new.self
    c.get_mut.follows.holds-at-none c.in_ok-name.ensures c.in_ok-insert.ensures.entries c.in_ok-insert.ensures.updates in
    named_first c.args.keys.now.entries c.insert.new.self.entries c.args.key.now c.take-2.new.self c.args.turn c.args.op.now none put.0 put.1
    (subst (λ (k : KeyState). IsTaken k c.take-2.new.self c.args.turn c.args.op.now) c.new-run.ensures c.in_ok-take.ensures)
