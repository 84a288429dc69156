use Rattle.hk_merge.proofs.Shown.{kept_is_shown}
use Rattle.hk_merge.proofs.laws.kept_is_shown.Goals as goal

pub returns : goal.returns
returns c = kept_is_shown c.reads_leave.ensures.read c.serving_stays.ensures.founders c.serving_stays.ensures.stays c.notes_are_kept.ensures
