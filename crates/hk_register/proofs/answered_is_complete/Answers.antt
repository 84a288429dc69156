use Rattle.hk_register.proofs.Runs.{reached_parts}
use Rattle.hk_register.proofs.answered_is_complete.Goals as goal

pub returns : goal.returns
returns c = λ V st r n s a h. ((reached_parts V st r).items _ h).0
