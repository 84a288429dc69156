-- What is written, and then what is left, is the whole.
use Rattle.std.proofs.Common.{◌≡◌, ◌++◌, drop}
use Rattle.hk_transcript.specs.Text.{copy_items_text}
use Rattle.hk_transcript.proofs.letters.put_copy_items.Given as goal

abbrev pub invariant-loop-item : goal.invariant-loop-item
invariant-loop-item l = l.out.items ++ copy_items_text (drop l.item-index l.items) ≡ l.fn.out.items ++ copy_items_text l.items
