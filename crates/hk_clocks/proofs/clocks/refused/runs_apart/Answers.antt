use Rattle.std.proofs.Common.{arith}
use Rattle.hk_clocks.proofs.Ahead.{lead_bound}
use Rattle.hk_clocks.proofs.clocks.refused.runs_apart.Goals as goal

pub overflow_add-result-2 : goal.overflow_add-result-2
overflow_add-result-2 c = let b = lead_bound 1000000000000000 c.args.pace.now.leads c.args.other c.requires.bounded in omega (arith, c.over.ensures, b, c.elapsed-ahead.ensures.bound)
