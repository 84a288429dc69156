-- What is written, and then what is left, is the whole.
use Rattle.std.proofs.Common.{◌≡◌, ◌++◌, drop}
use Rattle.hk_drill.specs.Together.{together_text}
use Rattle.hk_drill.proofs.joined.put_batches.Given as goal

abbrev pub invariant-loop-batch : goal.invariant-loop-batch
invariant-loop-batch l = l.out.items ++ together_text (drop l.batch-index l.batches) ≡ l.fn.out.items ++ together_text l.batches
