use Rattle.std.proofs.Common.{◌≡◌, take}
use Rattle.hk_journal.proofs.step_entry.share_journal.Given as goal

-- those so far
abbrev pub invariant-loop-entry : goal.invariant-loop-entry
invariant-loop-entry l = l.same ≡ take l.entry-index l.journal
