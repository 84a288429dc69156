-- What is put so far, and then what is left, gives the whole.
use Rattle.std.proofs.Common.{◌≡◌, drop}
use Rattle.hk_merge.specs.Placed.{placed, put_entries}
use Rattle.hk_merge.proofs.slot.put_entries.Given as goal

abbrev pub invariant-loop-entry : goal.invariant-loop-entry
invariant-loop-entry l = put_entries l.node (placed l.slots.entries) (drop l.entry-index l.entries) ≡ put_entries l.node (placed l.fn.slots.entries) l.entries
