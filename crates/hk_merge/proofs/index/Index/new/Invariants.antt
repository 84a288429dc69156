-- The entries so far are found.
use Rattle.std.proofs.Common.{take}
use Rattle.hk_merge.specs.Indexed.{IsIndexed}
use Rattle.hk_merge.proofs.index.Index.new.Given as goal

abbrev pub invariant-loop-entry : goal.invariant-loop-entry
invariant-loop-entry l = IsIndexed l.tickets.keys l.kept.entries (take l.entry-index l.journal)
