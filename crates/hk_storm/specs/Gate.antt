-- What contracts see of the gate of a storm's worker.
use Rattle.std.specs.Prelude.{Bool}
use Rattle.rand_pcg.specs.Lcg.{Lcg}

-- whether it is closed, and what draws its losses
pub record GateState : Type 0 where
  pub closed : Bool
  pub losses : Lcg
