use Rattle.hk_merge.proofs.Keep.{notes_are_kept}
use Rattle.hk_merge.proofs.laws.notes_are_kept.Goals as goal

pub returns : goal.returns
returns c = notes_are_kept c.reads_stand.ensures.list
