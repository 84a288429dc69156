use Rattle.std.specs.Map.Iter.{deref_pair}
use Rattle.std.proofs.lemmas.Map.Iter.{rest_more}
use Rattle.hk_clocks.proofs.Ahead.{leads_step}
use Rattle.hk_clocks.proofs.clocks.rising.leads_after.Goals as goal

pub loop-other-preserved : goal.loop-other-preserved
loop-other-preserved c =
    let left = rest_more deref_pair _ _ _ _ c.in-Some.is c.next.ensures.steps in
    (tt, tt, leads_step c.args.rise (c.args.actor, c.args.pace.now) c.args.paces.now.entries c.loop-other.leads c.put.new.self _ _ c.lead_after.result (c.in-Some.other.now, c.in-Some.theirs.now) c.requires.ordered left c.lead_after.ensures c.in_ok-put.ensures c.loop-other.invariant.2)
