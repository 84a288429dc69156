-- What is written, and then what is left, is the whole.
use Rattle.std.proofs.Common.{◌≡◌, ◌++◌, drop}
use Rattle.hk_drill.specs.Marks.{marks_text}
use Rattle.hk_drill.proofs.keys.put_history.Given as goal

abbrev pub invariant-loop-mark : goal.invariant-loop-mark
invariant-loop-mark l = l.out.items ++ marks_text (drop l.mark-index l.history) ≡ l.fn.out.items ++ marks_text l.history
