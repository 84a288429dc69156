use Rattle.std.proofs.Common.{rules, arith, ◌∙◌}
use Rattle.hk_conn.proofs.Streams.{written_more}
use Rattle.hk_conn.proofs.connection.write_all.Goals as goal

pub loop-at-preserved : goal.loop-at-preserved
loop-at-preserved g c =
    let later = c.in-Ok.ensures.later in
    let inside = c.in-Ok.ensures.bound in
    (grind (arith, inside), omega (arith, later), written_more _ _ _ c.args.text.now c.loop-at.at c.in-Ok.count c.loop-at.invariant.2 (search rules), c.in-Ok.ensures.left ∙ c.loop-at.invariant.3, c.in-Ok.ensures.given ∙ c.loop-at.invariant.4, c.in-Ok.ensures.reads ∙ c.loop-at.invariant.5)
