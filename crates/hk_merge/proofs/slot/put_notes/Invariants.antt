-- What is put so far, and then what is left, gives the whole.
use Rattle.std.proofs.Common.{◌≡◌, drop}
use Rattle.hk_merge.specs.Placed.{placed, put_notes}
use Rattle.hk_merge.proofs.slot.put_notes.Given as goal

abbrev pub invariant-loop-listed : goal.invariant-loop-listed
invariant-loop-listed l = put_notes l.journals l.listed (placed l.slots.entries) (drop l.listed l.notes) ≡ put_notes l.journals 0 (placed l.fn.slots.entries) l.notes
