use Rattle.std.proofs.Common.{arith, sym, refl}
use Rattle.hk_conn.proofs.Reading.{line_reader, line_turns, long_turns, need_turns, no_block, if_ok}
use Rattle.hk_conn.proofs.reader.Reader.line_turn.Goals as goal

pub line-requires-clause-reader : goal.line-requires-clause-reader
line-requires-clause-reader c = (line_reader c.args.self.now.cutter c.next.new.self c.requires.reader (sym c.in-Line.ensures.step) c.in-Line.ensures.rest c.in-Line.ensures.free).0

pub line-requires-clause-free : goal.line-requires-clause-free
line-requires-clause-free c = let z = (line_reader c.args.self.now.cutter c.next.new.self c.requires.reader (sym c.in-Line.ensures.step) c.in-Line.ensures.rest c.in-Line.ensures.free).1 in omega (arith, z)

pub returns-in-Line-clause-turns : goal.returns-in-Line-clause-turns
returns-in-Line-clause-turns c = if_ok c.line.result _ _ (λ t h. line_turns t c.args.self.now.cutter c.next.new.self c.line.new.self.cutter c.line.new.self.pending c.requires.reader (sym c.in-Line.ensures.step) c.in-Line.ensures.rest h) c.line.ensures.turns

pub returns-in-TooLong-clause-reader : goal.returns-in-TooLong-clause-reader
returns-in-TooLong-clause-reader c = λ other. absurd (other refl)

pub returns-in-TooLong-clause-turns : goal.returns-in-TooLong-clause-turns
returns-in-TooLong-clause-turns c = rw c.requires.pending (long_turns c.args.self.now.cutter c.next.new.self c.requires.reader (sym c.in-TooLong.ensures.step) c.in-TooLong.ensures.rest)

pub returns-in-Need-clause-reader : goal.returns-in-Need-clause-reader
returns-in-Need-clause-reader c = λ other. rw c.requires.pending (need_turns c.args.self.now.cutter c.next.new.self c.requires.reader (sym c.in-Need.ensures.step) c.in-Need.ensures.rest).0

pub returns-in-Need-clause-turns : goal.returns-in-Need-clause-turns
returns-in-Need-clause-turns c = rw c.requires.pending (need_turns c.args.self.now.cutter c.next.new.self c.requires.reader (sym c.in-Need.ensures.step) c.in-Need.ensures.rest).1

pub returns-in-Block-clause-reader : goal.returns-in-Block-clause-reader
returns-in-Block-clause-reader c = absurd (no_block c.args.self.now.cutter c.requires.reader (sym c.in-Block.ensures.step))

pub returns-in-Block-clause-turns : goal.returns-in-Block-clause-turns
returns-in-Block-clause-turns c = absurd (no_block c.args.self.now.cutter c.requires.reader (sym c.in-Block.ensures.step))
