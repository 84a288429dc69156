use Rattle.hk_assemble.proofs.Single.{answers_are_one}
use Rattle.hk_assemble.proofs.laws.answers_are_one.Goals as goal

pub returns : goal.returns
returns c = answers_are_one c.reads_leave.ensures.read c.kept_is_shown.ensures c.merged_is_single.ensures.single
