use Rattle.std.proofs.Common.{le_refl}
use Rattle.hk_register.proofs.Runs.{reached_parts}
use Rattle.hk_register.proofs.Orders.{none_between}
use Rattle.hk_register.proofs.nothing_between.Goals as goal

pub returns : goal.returns
returns c = λ V st r q begun rmw done u begun' done' above below. none_between V st (reached_parts V st r) u.stamp q begun rmw done u begun' done' above below (le_refl u.stamp)
