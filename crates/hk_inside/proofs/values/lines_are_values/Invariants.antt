use Rattle.std.specs.List.{AllWithin}
use Rattle.hk_inside.specs.Parts.{IsLineValue}
use Rattle.hk_inside.proofs.values.lines_are_values.Given as goal

abbrev pub invariant-loop-line : goal.invariant-loop-line
invariant-loop-line l = AllWithin IsLineValue l.lines 0 l.line-index
