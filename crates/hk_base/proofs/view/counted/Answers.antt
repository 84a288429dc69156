use Rattle.hk_base.proofs.Counting.{counted_next}
use Rattle.hk_base.proofs.view.counted.Goals as goal

pub loop-number-preserved : goal.loop-number-preserved
loop-number-preserved c = counted_next c.loop-number.number c.from.result _ _ c.from.ensures c.loop-number.invariant c.in_ok-push.ensures.items
