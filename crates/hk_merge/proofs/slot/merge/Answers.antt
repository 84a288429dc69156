use Rattle.hk_merge.specs.Placed.{merged}
use Rattle.hk_merge.proofs.Placing.{in_turn}
use Rattle.hk_merge.proofs.slot.merge.Goals as goal

pub returns : goal.returns
returns c = in_turn c.in_order.result c.in_ok-slots.slots.entries (merged c.args.journals.now c.args.notes.now) c.in_order.ensures c.in_ok-slots.ensures
