use Rattle.hk_return.proofs.Working.{worked_disk}
use Rattle.hk_return.proofs.law.a_view_may_come_again.Goals as goal

pub returns : goal.returns
returns c = worked_disk
