-- What is written, and then what is left, is the whole.
use Rattle.std.proofs.Common.{◌≡◌, ◌++◌, drop}
use Rattle.hk_drill.specs.Together.{batch_text}
use Rattle.hk_drill.proofs.joined.put_batch.Given as goal

abbrev pub invariant-loop-call : goal.invariant-loop-call
invariant-loop-call l = l.out.items ++ batch_text (drop l.call-index l.calls) ≡ l.fn.out.items ++ batch_text l.calls
