-- One more of the event's number.
use Rattle.std.proofs.Common.{arith}
use Rattle.std.proofs.lemmas.Grind.{common_steps}
use Rattle.std.proofs.lemmas.List.Sums.{count_by_more_yes, count_by_more_no}
use Rattle.hk_history.proofs.history.reply_counts.Goals as goal

pub loop-event-preserved : goal.loop-event-preserved
loop-event-preserved c = λ n. grind (arith, common_steps, count_by_more_yes, count_by_more_no, c.loop-event.invariant n)
