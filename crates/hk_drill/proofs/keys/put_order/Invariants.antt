-- What is written, and then what is left, is the whole.
use Rattle.std.proofs.Common.{◌≡◌, ◌++◌, drop}
use Rattle.hk_drill.specs.Keys.{order_text}
use Rattle.hk_drill.proofs.keys.put_order.Given as goal

abbrev pub invariant-loop-entry : goal.invariant-loop-entry
invariant-loop-entry l = l.out.items ++ order_text (drop l.entry-index l.order) ≡ l.fn.out.items ++ order_text l.order
