use Rattle.std.proofs.Common.{◌≡◌, Some, None, refl, sym, ap, subst}
use Rattle.std.specs.Option.{IsSome}
use Rattle.hk_world.specs.World.{numbered}
use Rattle.hk_safety.specs.Kept.{find_key}
use Rattle.hk_safety.proofs.Puts.{on_ok, put_at}
use Rattle.hk_safety.proofs.Answering.{told_there, told_nobody, absent_lines}
use Rattle.hk_safety.proofs.kept.put_reply.Goals as goal

pub returns-in-Some-get_mut : goal.returns-in-Some-get_mut
returns-in-Some-get_mut c =
    let named : numbered c.args.reply.now.call.0 c.args.calls.now ≡ Some c.in-Some.key.now = sym c.in-Some.ensures in
    let found : find_key c.in-Some.key.now c.args.keys.now.entries ≡ Some c.in-Some-get_mut.run'.now = sym c.in-Some-get_mut.ensures.value in
    let put = c.get_mut.follows.holds c.answer.new.self in
    on_ok c.answer.result (told_there c.args.keys.now.entries _ c.in-Some.key.now c.in-Some-get_mut.run'.now c.answer.new.self c.args.calls.now
    c.args.reply.now named found put.1
    (put_at c.args.keys.now (c.get_mut.follows.lender c.answer.new.self) c.in-Some.key.now c.answer.new.self
    (put.3 (subst IsSome (sym found) refl)))) c.answer.ensures

pub returns-in-None : goal.returns-in-None
returns-in-None c =
    let named : numbered c.args.reply.now.call.0 c.args.calls.now ≡ Some c.in-Some.key.now = sym c.in-Some.ensures in
    let none : find_key c.in-Some.key.now c.args.keys.now.entries ≡ None = sym c.in-None.ensures.value in
    told_nobody c.args.keys.now.entries c.get_mut.follows.lender-at-none.entries _ (ap (λ m. m.entries) c.get_mut.follows.holds-at-none)
    (absent_lines c.args.keys.now.entries c.in-Some.key.now c.args.calls.now c.args.reply.now named none)
