use Rattle.std.proofs.Common.{rules}
use Rattle.hk_seq.proofs.Keeps.{matches, unmatched}
use Rattle.crossbeam_utils.proofs.SeqKeeps.{puts}
use Rattle.hk_seq.proofs.cell.WordCell+V+P+N+A.put_word.Goals as goal

pub load-requires : goal.load-requires
load-requires g c = (search rules, search rules, matches _ _ _ _ _ _ _ _ _ _ c.requires.writing.1.1 c.requires.inside)

pub store-requires : goal.store-requires
store-requires g c = (
  search rules,
  search rules,
  puts _ _ _ _ _ _ _ _ _ _ _
      (unmatched (λ x. x) c.load.result c.requires.writing.0 c.args.i c.requires.writing.1.0 c.args.new.now _ _ c.requires.writing.1.1 (search rules) c.load.ensures.2.2)
      c.requires.inside (search rules),
)
