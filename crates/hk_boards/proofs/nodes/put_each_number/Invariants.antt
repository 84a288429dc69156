use Rattle.std.proofs.Common.{◌≡◌, ◌++◌, take}
use Rattle.std.specs.List.{flat_map}
use Rattle.hk_boards.specs.Gathering.{numbers_of}
use Rattle.hk_boards.proofs.nodes.put_each_number.Given as goal

abbrev pub invariant-loop-line : goal.invariant-loop-line
invariant-loop-line l = l.numbers.items ≡ l.fn.numbers.items ++ flat_map numbers_of (take l.line-index l.lines)
