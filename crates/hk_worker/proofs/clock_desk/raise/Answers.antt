use Rattle.hk_locked.proofs.Reading.{grown_itself, grown_same}
use Rattle.hk_worker.proofs.Freely.{grown_ticked}
use Rattle.hk_worker.proofs.clock_desk.raise.Goals as goal

pub returns-then-has_ticked-clause-grown : goal.returns-then-has_ticked-clause-grown
returns-then-has_ticked-clause-grown g c = λ key. grown_itself key c.args.reader.now

pub returns-in_err-tick-clause-grown : goal.returns-in_err-tick-clause-grown
returns-in_err-tick-clause-grown g c = λ key. grown_same key c.args.reader.now c.tick.new.reader c.in_err-tick.ensures.err

pub returns-clause-grown : goal.returns-clause-grown
returns-clause-grown g c = λ key. grown_ticked key c.args.now c.args.reader.now c.tick.new.reader c.in_ok-tick.ensures.ticks
