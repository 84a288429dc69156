use Rattle.std.proofs.Common.{arith}
use Rattle.std.specs.Map.Iter.{deref_pair}
use Rattle.std.proofs.lemmas.Map.Iter.{rest_more}
use Rattle.hk_clocks.proofs.Level.{least_step}
use Rattle.hk_clocks.proofs.clocks.refused.least_clock.Goals as goal

pub loop-actor-preserved : goal.loop-actor-preserved
loop-actor-preserved c =
    let left = rest_more deref_pair _ _ _ _ c.in-Some.is c.next.ensures.steps in (
      tt,
      tt,
      omega (arith, c.min-least.ensures, c.loop-actor.invariant.2),
      λ low under over. least_step c.loop-actor.least c.args.paces.now.entries _ _ (c.in-Some._actor.now, c.in-Some.pace.now) left c.loop-actor.invariant.3 low (omega (arith, under, c.min-least.ensures)) over,
    )
