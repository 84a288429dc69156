-- What is put so far, and then what is left, gives the whole.
use Rattle.std.proofs.Common.{◌≡◌, drop}
use Rattle.hk_merge.specs.Placed.{placed, put_journals}
use Rattle.hk_merge.proofs.slot.put_journals.Given as goal

abbrev pub invariant-loop-number : goal.invariant-loop-number
invariant-loop-number l = put_journals l.number (placed l.slots.entries) (drop l.number l.journals) ≡ put_journals 0 (placed l.fn.slots.entries) l.journals
