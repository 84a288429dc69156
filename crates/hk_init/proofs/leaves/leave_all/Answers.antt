use Rattle.hk_init.proofs.Rounds.{no_rounds, rounds_more, ends_now, is_true, is_false}
use Rattle.hk_init.proofs.leaves.leave_all.Goals as goal

pub loop-round-init : goal.loop-round-init
loop-round-init g c = no_rounds c.args.leave.now c.args.count _

pub loop-round-preserved : goal.loop-round-preserved
loop-round-preserved g c =
    rounds_more c.args.leave.now c.args.count c.loop-round.round _ _ _ _ _ _ _ c.loop-round.invariant c.ask_each-told.ensures (is_true _ c.if-not-told.false) c.rest.ensures

pub returns-then-not-told : goal.returns-then-not-told
returns-then-not-told g c =
    ends_now c.args.leave.now c.args.count c.loop-round.round _ _ _ _ _ _ _ c.loop-round-test.true c.loop-round.invariant c.ask_each-told.ensures (is_false _ c.if-not-told.true) c.ended.ensures
