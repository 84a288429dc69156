-- What is written, and then what is left, is the whole.
use Rattle.std.proofs.Common.{◌≡◌, ◌++◌, drop}
use Rattle.hk_transcript.specs.Text.{replies_text}
use Rattle.hk_transcript.proofs.lines.put_replies.Given as goal

abbrev pub invariant-loop-reply : goal.invariant-loop-reply
invariant-loop-reply l = l.out.items ++ replies_text l.number (drop l.reply-index l.replies) ≡ l.fn.out.items ++ replies_text l.number l.replies
