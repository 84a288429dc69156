use Rattle.hk_register.proofs.Runs.{reached_parts}
use Rattle.hk_register.proofs.Orders.{base_not_below}
use Rattle.hk_register.proofs.base_not_below.Goals as goal

pub returns : goal.returns
returns c = λ V st r. base_not_below V st (reached_parts V st r)
