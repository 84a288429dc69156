use Rattle.hk_init.proofs.Confirming.{round_goes_on}
use Rattle.hk_init.proofs.command.confirm_lost.Goals as goal

pub loop-place-preserved : goal.loop-place-preserved
loop-place-preserved g c =
    let kept = c.loop-place.invariant in
    round_goes_on kept.0 c.loop-place.place c.loop-place.answered c.loop-place.denied _ _ _ c.ask_status-told.result _ _ _ (kept.1, kept.2, kept.3, kept.4, kept.5)
    c.ask_status-told.ensures c.count_of-answered.ensures.exact c.count_of-answered.ensures.few c.denies_lost.ensures c.one_of-denied.ensures
