use Rattle.std.proofs.Common.{◌≡◌, take}
use Rattle.hk_base.proofs.letter.share_items.Given as goal

abbrev pub invariant-loop-item : goal.invariant-loop-item
invariant-loop-item l = l.same ≡ take l.item-index l.item-items
