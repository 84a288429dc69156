use Rattle.std.proofs.Common.{◌≡◌, take}
use Rattle.std.specs.List.{flat_map}
use Rattle.hk_boards.specs.Gathering.{numbers_in}
use Rattle.hk_boards.proofs.boards.Boards.numbers.Given as goal

abbrev pub invariant-loop-heard : goal.invariant-loop-heard
invariant-loop-heard l = l.numbers.items ≡ flat_map numbers_in (take l.heard-index l.heard-items)
