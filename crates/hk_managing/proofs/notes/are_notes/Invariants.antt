use Rattle.std.proofs.Common.{take, All}
use Rattle.hk_log.specs.Entries.{IsEntryInRange}
use Rattle.hk_managing.proofs.notes.are_notes.Given as goal

abbrev pub invariant-loop-entry : goal.invariant-loop-entry
invariant-loop-entry l = All IsEntryInRange (take l.entry-index l.entries)
