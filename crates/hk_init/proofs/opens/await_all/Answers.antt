use Rattle.hk_init.proofs.Opening.{waits_none, waits_more, opens_now}
use Rattle.hk_init.proofs.opens.await_all.Goals as goal

pub loop-round-init : goal.loop-round-init
loop-round-init g c = waits_none c.args.words.now c.args.count 0 _

pub returns-in_default : goal.returns-in_default
returns-in_default g c =
    opens_now c.args.words.now c.args.count c.loop-round._round c.loop-round.lacking _ _ _ c.loop-round-test.true c.loop-round.invariant c.in_default.ensures

pub loop-round-preserved : goal.loop-round-preserved
loop-round-preserved g c =
    waits_more c.args.words.now c.args.count c.loop-round._round c.loop-round.lacking c.in-Some.place _ _ _ _ c.loop-round.invariant c.in-Some.ensures c.rest.ensures
