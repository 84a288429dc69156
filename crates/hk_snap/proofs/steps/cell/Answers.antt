use Rattle.std.proofs.Common.{rules}
use Rattle.hk_snap.proofs.Keeping.{begins}
use Rattle.hk_snap.proofs.steps.cell.Goals as goal

pub ruled-requires : goal.ruled-requires
ruled-requires c = (search rules, (search rules, (search rules, begins _ c.no_words.ensures)))
