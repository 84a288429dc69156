use Rattle.std.proofs.Common.{take}
use Rattle.hk_safety.specs.Grown.{AreTold}
use Rattle.hk_safety.specs.Shows.{lines_at}
use Rattle.hk_safety.proofs.kept.put_replies.Given as goal

-- the replies so far are told
abbrev pub invariant-loop-reply : goal.invariant-loop-reply
invariant-loop-reply l = AreTold l.fn.keys.entries l.keys.entries (λ key. lines_at key l.calls (take l.reply-index l.replies))
