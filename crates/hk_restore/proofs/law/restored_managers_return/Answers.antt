use Rattle.hk_restore.proofs.Returning.{restored_managers_return}
use Rattle.hk_restore.proofs.law.restored_managers_return.Goals as goal

pub returns : goal.returns
returns c = restored_managers_return
