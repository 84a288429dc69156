use Rattle.hk_locked.proofs.Reading.{grown_on}
use Rattle.hk_worker.proofs.Telling.{told_after}
use Rattle.hk_worker.proofs.waiting.wait.Goals as goal

pub returns-in-Told-clause-waits : goal.returns-in-Told-clause-waits
returns-in-Told-clause-waits g c =
    told_after c.loop-looked.looked c.looks_now-looks.result c.args.key.now c.args.ticket c.in_ok-answer.field-0 c.in-Told.answer c.args.reader.now c.loop-looked.reader c.turn.new.reader
    c.loop-looked.invariant.0 c.in-Told.is c.in_ok-answer.ensures.looks

pub returns-in-Told-clause-grown : goal.returns-in-Told-clause-grown
returns-in-Told-clause-grown g c = grown_on c.args.key.now c.args.reader.now c.loop-looked.reader c.turn.new.reader c.loop-looked.invariant.0.grown c.turn.ensures.grown

pub returns-in-Gone-clause-grown : goal.returns-in-Gone-clause-grown
returns-in-Gone-clause-grown g c = grown_on c.args.key.now c.args.reader.now c.loop-looked.reader c.turn.new.reader c.loop-looked.invariant.0.grown c.turn.ensures.grown
