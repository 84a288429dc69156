use Rattle.hk_init.proofs.Opening.{tell_lacks, tell_goes_on}
use Rattle.hk_init.proofs.opens.first_lacking.Goals as goal

pub returns-then-not-tells : goal.returns-then-not-tells
returns-then-not-tells g c =
    let kept = c.loop-place.invariant in
    tell_lacks c.args.words.now c.args.count kept.0 c.loop-place.place _ _ _ c.tells.result (kept.1, kept.2, kept.3) c.loop-place-test.true c.tells.ensures c.if-not-tells.true

pub loop-place-preserved : goal.loop-place-preserved
loop-place-preserved g c =
    let kept = c.loop-place.invariant in
    tell_goes_on c.args.words.now kept.0 c.loop-place.place _ _ _ c.tells.result (kept.1, kept.2, kept.3) c.tells.ensures c.if-not-tells.false
