use Rattle.hk_return.proofs.WorkingLog.{worked_log}
use Rattle.hk_return.proofs.law.a_log_is_lost_in_part.Goals as goal

pub returns : goal.returns
returns c = worked_log
