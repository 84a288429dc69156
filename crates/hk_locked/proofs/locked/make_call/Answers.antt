use Rattle.hk_told.specs.Kept.{asks_in}
use Rattle.hk_locked.proofs.Keeping.{one_given, called_waits, called_at_once, called_letters}
use Rattle.hk_locked.proofs.locked.make_call.Goals as goal

pub answer_of-requires : goal.answer_of-requires
answer_of-requires g c = (c.args.call, one_given c.args.shard.now c.args.call c.args.key.now c.args.op.now c.in_ok-event.event c.in-Ok.out.replies c.requires.shard c.in_ok-event.ensures c.in-Ok.ensures.replies)

pub returns-in_default-answer_of-clause-called : goal.returns-in_default-answer_of-clause-called
returns-in_default-answer_of-clause-called g c =
    called_waits c.args.shard.now c.step.new.self c.args.ticket c.args.call c.args.key.now c.args.op.now c.in_ok-event.event c.in-Ok.out.replies c.in_ok-ask.ask (asks_in c.args.asks.now) (asks_in c.keep.new.asks)
    c.in_ok-event.ensures c.in_ok-keep.ensures.none c.in_ok-ask.ensures c.in_ok-keep.ensures.kept c.in-Ok.ensures.applied c.in-Ok.ensures.replies
    (c.in_default-answer_of.ensures c.args.call (one_given c.args.shard.now c.args.call c.args.key.now c.args.op.now c.in_ok-event.event c.in-Ok.out.replies c.requires.shard c.in_ok-event.ensures c.in-Ok.ensures.replies))

pub returns-in_default-answer_of-clause-letters : goal.returns-in_default-answer_of-clause-letters
returns-in_default-answer_of-clause-letters g c = called_letters c.args.shard.now c.args.call c.args.key.now c.args.op.now c.in_ok-event.event c.in-Ok.out.letters c.requires.shard c.in_ok-event.ensures c.in-Ok.ensures.letters

pub returns-clause-called : goal.returns-clause-called
returns-clause-called g c =
    called_at_once c.args.shard.now c.step.new.self c.args.ticket c.args.call c.args.key.now c.args.op.now c.in_ok-event.event c.in-Ok.out.replies c.in_ok-ask.ask (asks_in c.args.asks.now) (asks_in c.keep.new.asks)
    (asks_in c.forget-2.new.asks) c.in-Some.answer c.in_ok-event.ensures c.in_ok-keep.ensures.none c.in_ok-keep.ensures.kept c.in-Ok.ensures.applied c.in-Ok.ensures.replies
    (c.in-Some.ensures c.args.call (one_given c.args.shard.now c.args.call c.args.key.now c.args.op.now c.in_ok-event.event c.in-Ok.out.replies c.requires.shard c.in_ok-event.ensures c.in-Ok.ensures.replies)) c.forget-2.ensures.gone c.forget-2.ensures.others

pub returns-clause-letters : goal.returns-clause-letters
returns-clause-letters g c = called_letters c.args.shard.now c.args.call c.args.key.now c.args.op.now c.in_ok-event.event c.in-Ok.out.letters c.requires.shard c.in_ok-event.ensures c.in-Ok.ensures.letters
