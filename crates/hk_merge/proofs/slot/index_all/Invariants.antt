-- What was made is that of the journals so far.
use Rattle.std.proofs.Common.{◌≡◌, take}
use Rattle.hk_merge.proofs.slot.index_all.Given as goal

abbrev pub invariant-loop-journal : goal.invariant-loop-journal
invariant-loop-journal l = l.all.items ≡ take l.journal-index l.journals
