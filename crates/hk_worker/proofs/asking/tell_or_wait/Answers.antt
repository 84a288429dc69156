use Rattle.hk_worker.proofs.Telling.{tells_now, tells_suit, opens_later}
use Rattle.hk_worker.proofs.asking.tell_or_wait.Goals as goal

pub returns-in-Some-clause-opens : goal.returns-in-Some-clause-opens
returns-in-Some-clause-opens g c = λ old new starts. tells_now c.args.asked.call c.args.asked.key.now c.args.ticket c.args.asked.op.now c.args.answer c.in-Some.answer old new c.in-Some.is starts

pub returns-in-Some-clause-suits : goal.returns-in-Some-clause-suits
returns-in-Some-clause-suits g c = λ old new starts. tells_suit c.args.asked.call c.args.asked.key.now c.args.asked.op.now c.in-Some.answer old new
    (tells_now c.args.asked.call c.args.asked.key.now c.args.ticket c.args.asked.op.now c.args.answer c.in-Some.answer old new c.in-Some.is starts)

pub returns-in-Ok-clause-opens : goal.returns-in-Ok-clause-opens
returns-in-Ok-clause-opens g c = λ old new starts. opens_later c.args.asked.call c.args.asked.key.now c.args.asked.op.now c.args.answer c.in-Ok.waits c.args.ticket old new
    c.in-Ok.ensures.open c.in-Ok.ensures.ticket c.in_default.is starts

pub returns-in-Ok-clause-suits : goal.returns-in-Ok-clause-suits
returns-in-Ok-clause-suits g c = λ old new starts. c.in-Ok.ensures.open.1
