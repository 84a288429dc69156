-- The jobs of a process, which are started one after the other.
use Rattle.std.specs.Prelude.{◌≡◌, ℕ, ◌≤◌, Result, Err}
use Rattle.hk_outside.specs.Causes.{Rose}
use Rattle.hk_host.specs.declared.fault.StartFault.{StartFault}
use Rattle.hk_host.specs.declared.fault.StartFault.TheVariants as faults

-- Jobs were started, or one of them was refused, and then the spawner's count of faults rose. Else there was no memory.
pub record Starts {T : Type 0} (before now : ℕ) (result : Result T StartFault) : Type 0 where
  pub later : before ≤ now
  pub refused : result ≡ Err faults.Refused → Rose before now
