use Rattle.std.proofs.Common.{◌∙◌, ◌+◌, ◌-◌, sym, rules, arith, length}
use Rattle.hk_script.proofs.Turns.{turn, ended, stuck, spent}
use Rattle.hk_script.proofs.words.unspelled.Goals as goal

pub loop-turn-preserved : goal.loop-turn-preserved
loop-turn-preserved c =
    let t = c.loop-turn-test.true in
    c.loop-turn.invariant ∙ turn (length c.args.word.now - c.loop-turn._turn) (length c.args.word.now - (c.loop-turn._turn + 1)) c.in-Some.first.now c.in-Some-byte.byte c.loop-turn.bytes.items c.push.new.self.items c.loop-turn.rest.now c.in-Some.others.now c.in-Some-byte.behind.now (omega (arith, t)) (search rules) (search rules) (search rules)

pub returns-in_default : goal.returns-in_default
returns-in_default c = sym (c.loop-turn.invariant ∙ ended (length c.args.word.now - c.loop-turn._turn) c.loop-turn.bytes.items c.loop-turn.rest.now (search rules))

pub returns-in_default-byte : goal.returns-in_default-byte
returns-in_default-byte c =
    let t = c.loop-turn-test.true in
    sym (c.loop-turn.invariant ∙ stuck (length c.args.word.now - c.loop-turn._turn) (length c.args.word.now - (c.loop-turn._turn + 1)) c.in-Some.first.now c.loop-turn.bytes.items c.loop-turn.rest.now c.in-Some.others.now (omega (arith, t)) (search rules) (search rules))

pub returns-then-is_empty : goal.returns-then-is_empty
returns-then-is_empty c = sym (c.loop-turn.invariant ∙ ended (length c.args.word.now - c.loop-turn._turn) c.loop-turn.bytes.items c.loop-turn.rest.now (search rules))

pub returns-else-is_empty : goal.returns-else-is_empty
returns-else-is_empty c =
    let t = c.loop-turn-test.false in
    sym (c.loop-turn.invariant ∙ spent (length c.args.word.now - c.loop-turn._turn) c.loop-turn.bytes.items c.loop-turn.rest.now (omega (arith, t)) (search rules))
