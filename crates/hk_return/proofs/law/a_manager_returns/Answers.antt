use Rattle.hk_return.proofs.Working.{worked_return}
use Rattle.hk_return.proofs.law.a_manager_returns.Goals as goal

pub returns : goal.returns
returns c = worked_return
