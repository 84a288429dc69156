use Rattle.std.proofs.Common.{rules, arith}
use Rattle.hk_log.specs.Entries.{IsEntryInRange}
use Rattle.hk_managing.proofs.Telling.{one_more, all_of_them}
use Rattle.hk_managing.proofs.notes.are_notes.Goals as goal

pub loop-entry-preserved : goal.loop-entry-preserved
loop-entry-preserved c = one_more IsEntryInRange c.args.entries.now c.loop-entry.entry-index c.entry-item.result c.loop-entry-test.true c.entry-item.is c.loop-entry.invariant (c.is_note.ensures.range (search rules))

pub returns : goal.returns
returns c sure = all_of_them IsEntryInRange c.args.entries.now c.loop-entry.entry-index (omega (arith, c.loop-entry-test.false)) c.loop-entry.invariant
