use Rattle.hk_register.proofs.Runs.{reached_parts}
use Rattle.hk_register.proofs.Begins.{served_fresh}
use Rattle.hk_register.proofs.served_is_fresh.Goals as goal

pub returns : goal.returns
returns c = λ V st r. served_fresh V st (reached_parts V st r)
