use Rattle.std.proofs.Common.{rules}
use Rattle.crossbeam_utils.proofs.SeqKeeps.{splits}
use Rattle.hk_seq.proofs.cell.WordCell+V+P+N+A.split_pass.Goals as goal

pub split_seat-requires : goal.split_seat-requires
split_seat-requires g c = (search rules, search rules, splits _ _ _ _ _ _ _ c.requires.rule)
