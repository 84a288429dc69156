use Rattle.std.proofs.Common.{◌≡◌, ◌++◌, map, take, drop}
use Rattle.hk_routes.specs.Outlets.{old_half, new_half}
use Rattle.hk_routes.proofs.outlets.split_each.Given as goal

-- those so far were split
abbrev pub invariant-loop-place : goal.invariant-loop-place
invariant-loop-place l = record {
  olds : l.outlets.items ≡ map old_half (take l.place l.fn.outlets.items) ++ drop l.place l.fn.outlets.items;
  news : l.more ≡ map new_half (take l.place l.fn.outlets.items);
}
