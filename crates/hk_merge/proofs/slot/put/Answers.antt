use Rattle.std.proofs.Common.{ap, ◌∙◌}
use Rattle.hk_merge.specs.Placed.{placed}
use Rattle.hk_merge.proofs.Placing.{placed_put}
use Rattle.hk_merge.proofs.slot.put.Goals as goal

pub returns : goal.returns
returns c = ap placed c.in_ok-insert.ensures.entries ∙ placed_put c.args.slots.now.entries c.args.place c.args.slot
