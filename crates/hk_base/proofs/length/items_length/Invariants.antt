use Rattle.std.proofs.Common.{◌≡◌, ◌≤◌, ◌*◌, take}
use Rattle.std.specs.List.{sum_by}
use Rattle.hk_base.specs.Lengths.{item_length}
use Rattle.hk_base.proofs.length.items_length.Given as goal

abbrev pub invariant-loop-item : goal.invariant-loop-item
invariant-loop-item l = record { exact : l.total ≡ sum_by item_length (take l.item-index l.items); short : l.total ≤ 1048847 * l.item-index }
