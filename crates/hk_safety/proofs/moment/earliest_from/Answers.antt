use Rattle.std.proofs.Common.{sym, ap, ◌∙◌}
use Rattle.hk_safety.specs.Placed.{earliest}
use Rattle.hk_safety.proofs.Stamped.{from_between}
use Rattle.hk_safety.proofs.moment.earliest_from.Goals as goal

pub loop-tag-init : goal.loop-tag-init
loop-tag-init c =
    ap (earliest c.args.event)
    (from_between c.args.tag c.args.stamps.now.entries ∙ (sym (c.range-tag-items.ensures.between tt) ∙ sym c.into_iter-tag-iterator.ensures.into_iter_gives))
