use Rattle.hk_init.proofs.Rounds.{heard_more}
use Rattle.hk_init.proofs.leaves.ask_each.Goals as goal

pub loop-place-preserved : goal.loop-place-preserved
loop-place-preserved g c =
    let kept = c.loop-place.invariant in
    heard_more c.args.leave.now kept.0 c.loop-place.place c.loop-place.leaving c.loop-place.unknown c.loop-place.told _ _ _ c.ask-outcome.result _ _ _ _ _ _ kept.1 c.ask-outcome.ensures
    c.is_leaving.ensures c.either-leaving.ensures c.is_unknown.ensures c.either-unknown.ensures c.against.ensures c.later-told.ensures
