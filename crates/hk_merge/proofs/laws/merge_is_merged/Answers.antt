use Rattle.hk_merge.proofs.Puts.{merged_are_merged}
use Rattle.hk_merge.proofs.laws.merge_is_merged.Goals as goal

pub returns : goal.returns
returns c = merged_are_merged
