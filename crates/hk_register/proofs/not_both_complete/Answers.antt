use Rattle.hk_register.proofs.Runs.{reached_parts}
use Rattle.hk_register.proofs.Orders.{one_complete}
use Rattle.hk_register.proofs.not_both_complete.Goals as goal

pub returns : goal.returns
returns c = λ V st r. one_complete V st (reached_parts V st r)
