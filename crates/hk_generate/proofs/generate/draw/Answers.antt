use Rattle.std.proofs.Common.{◌∙◌, ◌+◌, ◌-◌, ap, sym, arith}
use Rattle.hk_generate.specs.Generated.{drawn_on}
use Rattle.hk_generate.proofs.Drawings.{drawn_turn, drawn_end}
use Rattle.hk_generate.proofs.generate.draw.Goals as goal

pub loop-turn-preserved : goal.loop-turn-preserved
loop-turn-preserved c =
    let t = c.loop-turn-test.true in
    c.loop-turn.invariant ∙ drawn_turn (c.args.count - c.loop-turn._turn) (c.args.count - (c.loop-turn._turn + 1)) c.loop-turn.drawing (omega (arith, t))
    ∙ ap (drawn_on (c.args.count - (c.loop-turn._turn + 1))) (sym c.in_ok-step.ensures)

pub returns : goal.returns
returns c =
    let t = c.loop-turn-test.false in
    sym (c.loop-turn.invariant ∙ drawn_end (c.args.count - c.loop-turn._turn) c.loop-turn.drawing (omega (arith, t)))
