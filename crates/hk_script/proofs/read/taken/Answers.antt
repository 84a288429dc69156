use Rattle.std.proofs.Common.{rules}
use Rattle.hk_script.proofs.Taking.{taken_line}
use Rattle.hk_script.proofs.read.taken.Goals as goal

pub returns : goal.returns
returns c = taken_line c.args.line.now c.in_ok-name.name.now c.in_ok-name.word.now c.in_ok-letter.letter c.in_ok-name.ensures (search rules) (search rules)
