use Rattle.std.proofs.Common.{arith}
use Rattle.hk_clocks.proofs.Ahead.{lead_bound}
use Rattle.hk_clocks.proofs.clocks.rising.lead_after.Goals as goal

pub lead_by-requires-clause-lead : goal.lead_by-requires-clause-lead
lead_by-requires-clause-lead c = let b = lead_bound 1000000000000000 c.args.pace.now.leads c.args.other c.requires.bounded in omega (arith, c.over.ensures, b)
