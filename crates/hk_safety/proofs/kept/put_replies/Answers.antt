use Rattle.std.proofs.Common.{ℕ, ◌+◌, List, take, ◌∷◌, []}
use Rattle.hk_safety.specs.Shows.{lines_at}
use Rattle.hk_safety.proofs.Answering.{told_joined, lines_turn}
use Rattle.hk_safety.proofs.kept.put_replies.Goals as goal

pub loop-reply-preserved : goal.loop-reply-preserved
loop-reply-preserved c =
    told_joined c.args.keys.now.entries c.loop-reply.keys.entries c.put_reply.new.keys.entries
    (λ (q : List ℕ). lines_at q c.args.calls.now (take c.loop-reply.reply-index c.args.replies.now))
    (λ (q : List ℕ). lines_at q c.args.calls.now (c.reply-item.result ∷ []))
    (λ (q : List ℕ). lines_at q c.args.calls.now (take (c.loop-reply.reply-index + 1) c.args.replies.now))
    (lines_turn c.args.calls.now c.args.replies.now c.loop-reply.reply-index c.reply-item.result c.loop-reply-test.true c.reply-item.is)
    c.loop-reply.invariant c.in_ok-put_reply.ensures
