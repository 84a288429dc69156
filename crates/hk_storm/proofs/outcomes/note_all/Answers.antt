use Rattle.std.proofs.Common.{rules, ◌≡◌, ◌<◌, ◌∷◌, ◌++◌, [], List, length, take, get_or, sym, ap, subst, ◌∙◌, append_assoc}
use Rattle.hk_base.specs.declared.call.Reply.{Reply}
use Rattle.hk_storm.specs.Outcomes.{IsTold}
use Rattle.hk_storm.proofs.Lists.{one_more}
use Rattle.hk_storm.proofs.outcomes.note_all.Goals as goal

pub loop-reply-preserved : goal.loop-reply-preserved
loop-reply-preserved c = λ before told.
    let within : c.loop-reply.reply-index < length c.args.replies.now = search rules in
    let is : c.reply-item.result ≡ get_or c.args.replies.now c.loop-reply.reply-index c.reply-item.result = search rules in
    subst (IsTold c.note.new.kept.entries)
    (append_assoc before (take c.loop-reply.reply-index c.args.replies.now) (c.reply-item.result ∷ [])
    ∙ ap (λ (l : List Reply). before ++ l) (sym (one_more c.args.replies.now c.loop-reply.reply-index c.reply-item.result within is)))
    (c.in_ok-note.ensures (before ++ take c.loop-reply.reply-index c.args.replies.now) (c.loop-reply.invariant before told))
