use Rattle.std.proofs.Common.{◌≡◌, ◌≤◌, length, take}
use Rattle.hk_boards.specs.Managers.{managers_told}
use Rattle.hk_boards.proofs.boards.Boards.managers_told.Given as goal

abbrev pub invariant-loop-heard : goal.invariant-loop-heard
invariant-loop-heard l = record {
  so_far : l.told ≡ managers_told l.founding l.place (take l.heard-index l.heard-items);
  few : length l.heard-items ≤ 9;
}
