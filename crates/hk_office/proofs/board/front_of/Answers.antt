use Rattle.std.proofs.Common.{sym, arith}
use Rattle.std.proofs.lemmas.List.{take_all}
use Rattle.hk_office.proofs.board.front_of.Goals as goal

pub returns-else-text-gt-MOST_TEXT : goal.returns-else-text-gt-MOST_TEXT
returns-else-text-gt-MOST_TEXT c = sym (take_all 255 c.args.text.now (omega (arith, c.if-text-gt-MOST_TEXT.false)))
