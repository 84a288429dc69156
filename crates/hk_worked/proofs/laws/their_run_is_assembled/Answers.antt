use Rattle.hk_worked.proofs.Assembling.{worked_run}
use Rattle.hk_worked.proofs.laws.their_run_is_assembled.Goals as goal

pub returns : goal.returns
returns c = worked_run c.merge_is_merged.ensures
