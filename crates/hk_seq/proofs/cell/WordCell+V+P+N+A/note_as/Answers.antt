use Rattle.std.proofs.Common.{rules}
use Rattle.hk_seq.proofs.Keeps.{notes}
use Rattle.hk_seq.proofs.cell.WordCell+V+P+N+A.note_as.Goals as goal

pub load-requires : goal.load-requires
load-requires g c = (search rules, search rules, notes _ _ _ g.M.Outcome.then _ _ _ c.requires.rule)
