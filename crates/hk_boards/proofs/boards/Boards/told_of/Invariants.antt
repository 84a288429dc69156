use Rattle.std.proofs.Common.{◌≡◌, ◌≤◌, length, take}
use Rattle.hk_boards.specs.Holders.{tickets_told}
use Rattle.hk_boards.proofs.boards.Boards.told_of.Given as goal

abbrev pub invariant-loop-heard : goal.invariant-loop-heard
invariant-loop-heard l = record {
  so_far : l.told ≡ tickets_told l.founding l.node (take l.heard-index l.heard-items);
  few : length l.heard-items ≤ 9;
}
