use Rattle.std.proofs.Common.{rules}
use Rattle.crossbeam_utils.proofs.SeqKeeps.{joins}
use Rattle.hk_seq.proofs.cell.WordCell+V+P+N+A.join_pass.Goals as goal

pub join_seat-requires : goal.join_seat-requires
join_seat-requires g c = (search rules, search rules, search rules, search rules, joins _ _ _ _ _ _ _ _ _ c.requires.rule)
