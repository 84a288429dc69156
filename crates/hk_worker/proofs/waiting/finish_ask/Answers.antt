use Rattle.hk_worker.proofs.Telling.{finishes_told, finishes_unknown}
use Rattle.hk_worker.proofs.waiting.finish_ask.Goals as goal

pub returns-in-Some-clause-finishes : goal.returns-in-Some-clause-finishes
returns-in-Some-clause-finishes g c = finishes_told c.args.key.now c.args.ticket c.in_ok-answer.field-0 c.in-Some.answer c.args.reader.now c.wait.new.reader c.in-Some.is c.in_ok-answer.ensures.waits

pub returns-clause-finishes : goal.returns-clause-finishes
returns-clause-finishes g c = finishes_unknown c.args.key.now c.args.ticket c.in_ok-answer.field-0 c.args.reader.now c.wait.new.reader c.in_default.is c.in_ok-answer.ensures.waits
