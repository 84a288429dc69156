use Rattle.std.proofs.Common.{◌≡◌, take}
use Rattle.hk_journal.proofs.step_entry.share_several.Given as goal

-- those so far
abbrev pub invariant-loop-reply : goal.invariant-loop-reply
invariant-loop-reply l = l.same ≡ take l.reply-index l.replies
