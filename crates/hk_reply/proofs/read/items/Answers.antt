use Rattle.std.proofs.Common.{◌∙◌, ◌+◌, ◌-◌, rules, arith, length}
use Rattle.hk_reply.proofs.Parts.{items_more, items_fail}
use Rattle.hk_reply.proofs.read.items.Goals as goal

pub loop-turn-preserved : goal.loop-turn-preserved
loop-turn-preserved c =
    let t = c.loop-turn-test.true in
    c.loop-turn.invariant ∙ items_more (length c.args.bytes.now + 1 - c.loop-turn._turn) (length c.args.bytes.now + 1 - (c.loop-turn._turn + 1)) c.args.tags c.loop-turn.items c.push-in-Some.new.self c.in-Some.item c.loop-turn.rest.now c.in-Ok.behind.now (omega (arith, t)) (search rules) (search rules)

pub returns-in-Err : goal.returns-in-Err
returns-in-Err c =
    let t = c.loop-turn-test.true in
    rw (c.loop-turn.invariant)
    (items_fail (length c.args.bytes.now + 1 - c.loop-turn._turn) (length c.args.bytes.now + 1 - (c.loop-turn._turn + 1)) c.args.tags c.loop-turn.items c.loop-turn.rest.now c.in-Err.stop (omega (arith, t)) c.in-Err.ensures)
