use Rattle.hk_merge.proofs.Between.{notes_stand_between}
use Rattle.hk_merge.proofs.laws.notes_stand_between.Goals as goal

pub returns : goal.returns
returns c = notes_stand_between
