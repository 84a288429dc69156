use Rattle.hk_register.proofs.Runs.{reached_parts}
use Rattle.hk_register.proofs.Orders.{member_passes}
use Rattle.hk_register.proofs.member_passes_over.Goals as goal

pub returns : goal.returns
returns c = λ V st r. member_passes V st (reached_parts V st r)
