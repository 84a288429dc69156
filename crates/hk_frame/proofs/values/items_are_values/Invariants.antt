use Rattle.std.specs.List.{AllWithin}
use Rattle.hk_frame.specs.Sendable.{IsItemValue}
use Rattle.hk_frame.proofs.values.items_are_values.Given as goal

abbrev pub invariant-loop-item : goal.invariant-loop-item
invariant-loop-item l = AllWithin IsItemValue l.items 0 l.item-index
