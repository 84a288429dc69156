use Rattle.hk_worked.proofs.Storming.{worked_storm}
use Rattle.hk_worked.proofs.laws.a_storm_of_two_calls_is_told.Goals as goal

pub returns : goal.returns
returns c = worked_storm c.merge_is_merged.ensures c.runs_are_legal.ensures
