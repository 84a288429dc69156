use Rattle.std.proofs.Common.{◌≡◌, ◌++◌, drop}
use Rattle.hk_safety.specs.Shows.{lines_at}
use Rattle.hk_safety.proofs.again.put_replies.Given as goal

abbrev pub invariant-loop-reply : goal.invariant-loop-reply
invariant-loop-reply l = l.items ++ lines_at l.key l.calls (drop l.reply-index l.replies) ≡ l.fn.items ++ lines_at l.key l.calls l.replies
