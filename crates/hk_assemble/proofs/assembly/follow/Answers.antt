use Rattle.std.proofs.Common.{rules, ◌≡◌, ◌+◌, List, Err, map, take, drop, sym, subst}
use Rattle.hk_merge.specs.Merged.{Item}
use Rattle.hk_merge.specs.Placed.{item_of}
use Rattle.hk_assemble.specs.Assemblies.{IsOn, IsFollowed}
use Rattle.hk_assemble.proofs.Turns.{split_here, one_more, fails_first}
use Rattle.hk_assemble.proofs.assembly.follow.Goals as goal

pub returns-in_err-follow : goal.returns-in_err-follow
returns-in_err-follow c =
    let slots = c.args.slots.now in
    let i = c.loop-slot.slot-index in
    let told : c.from_residual-in_err-follow.result ≡ Err c.in_err-follow.field-0.0 = search rules in
    subst (λ r. IsFollowed r c.args.header (map item_of c.args.slots.now)) (sym told)
    (fails_first c.args.header c.loop-slot.assembly.run c.loop-slot.assembly.sent.entries c.loop-slot.assembly.kept.entries (map item_of (take i slots)) (map item_of (drop (i + 1) slots)) (map item_of slots) (item_of c.slot-item.result)
    c.in_err-follow.field-0.0 c.loop-slot.invariant (split_here item_of slots i c.slot-item.result c.loop-slot-test.true c.slot-item.is)
    (c.in_err-follow.ensures c.args.header (map item_of (take i slots)) c.loop-slot.invariant))

pub loop-slot-preserved : goal.loop-slot-preserved
loop-slot-preserved c =
    let slots = c.args.slots.now in
    let i = c.loop-slot.slot-index in
    subst (λ (l : List Item). IsOn c.args.header c.follow.new.self l) (sym (one_more item_of slots i c.slot-item.result c.loop-slot-test.true c.slot-item.is))
    (c.in_ok-follow.ensures c.args.header (map item_of (take i slots)) c.loop-slot.invariant)
