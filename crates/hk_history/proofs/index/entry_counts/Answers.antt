-- One more of the entry's number.
use Rattle.std.proofs.Common.{arith}
use Rattle.std.proofs.lemmas.Grind.{common_steps}
use Rattle.std.proofs.lemmas.List.Sums.{count_by_more_yes, count_by_more_no}
use Rattle.hk_history.proofs.index.entry_counts.Goals as goal

pub loop-entry-preserved : goal.loop-entry-preserved
loop-entry-preserved c = λ n. grind (arith, common_steps, count_by_more_yes, count_by_more_no, c.loop-entry.invariant n)
