use Rattle.hk_worked.proofs.Merging.{worked_merge}
use Rattle.hk_worked.proofs.laws.two_journals_are_merged.Goals as goal

pub returns : goal.returns
returns c = worked_merge c.merge_is_merged.ensures
