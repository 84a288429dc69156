use Rattle.std.proofs.Common.{rules, arith}
use Rattle.hk_outside.proofs.Streams.{written_more}
use Rattle.hk_outside.proofs.stream.write_all.Goals as goal

pub loop-at-preserved : goal.loop-at-preserved
loop-at-preserved g c =
    let later = c.in-Ok.ensures.cause.later in
    let inside = c.in-Ok.ensures.within in
    (grind (arith, inside), omega (arith, later), written_more _ _ _ c.args.text.now c.loop-at.at c.in-Ok.count c.loop-at.invariant.2 (search rules))
