use Rattle.std.proofs.Common.{◌≡◌, drop}
use Rattle.hk_generate.specs.Generated.{with_replies}
use Rattle.hk_generate.proofs.generate.Replies.with_all.Given as goal

-- what the rest gives, the whole gives
abbrev pub invariant-loop-reply : goal.invariant-loop-reply
invariant-loop-reply l = with_replies l.initial.counts l.replies ≡ with_replies l.counts (drop l.reply-index l.replies)
