use Rattle.std.proofs.Common.{arith}
use Rattle.hk_script.proofs.Spelling.{number_told}
use Rattle.hk_script.proofs.read.read_number.Goals as goal

pub returns-clause-exact : goal.returns-clause-exact
returns-clause-exact c = let fits = c.ranges.limit.fits in number_told c.number.result c.args.limit c.args.word.now (omega (arith, fits)) c.number.ensures.exact
