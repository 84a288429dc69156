use Rattle.std.proofs.Common.{refl}
use Rattle.std.specs.Map.Iter.{deref_pair}
use Rattle.std.proofs.lemmas.Map.Iter.{rest_more}
use Rattle.hk_clocks.specs.declared.rise.Rise.TheVariants.{All}
use Rattle.hk_clocks.proofs.Ahead.{paces_step, bounded_step}
use Rattle.hk_clocks.proofs.clocks.rising.paces_at.Goals as goal

pub loop-actor-preserved : goal.loop-actor-preserved
loop-actor-preserved c =
    let left = rest_more deref_pair _ _ _ _ c.in-Some.is c.next.ensures.steps in (
      tt,
      tt,
      paces_step (All c.args.to) c.args.paces.now.entries c.loop-actor.after.entries c.put_pace.new.paces.entries _ _ (c.in-Some.actor.now, c.in-Some.pace.now) c.in_ok-leads.leads c.args.to c.requires.ordered left c.in_ok-leads.ensures refl c.in_ok-put_pace.ensures.ok c.loop-actor.invariant.2,
      bounded_step _ _ _ left c.loop-actor.invariant.3,
    )
