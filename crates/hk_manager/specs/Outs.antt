-- What a manager tells of its step.
use Rattle.std.specs.Prelude.{◌≡◌, Result, Ok, Err, Option, Some, None}
use Rattle.hk_base.specs.declared.memory.Memory.{Memory as Wanting}
use Rattle.hk_manager.specs.declared.fault.ManagerFault.{ManagerFault}
use Rattle.hk_manager.specs.declared.fault.ManagerFault.TheVariants.{Memory}
use Rattle.hk_manager.specs.declared.out.ManagerOut.{ManagerOut}
use Rattle.hk_manager.specs.Manager.{ManagerState}
use Rattle.hk_manager.specs.Steps.{ManagerStepped}

-- the manager after the step, and what is told
abbrev pub made : ManagerState → ManagerOut → ManagerStepped
made m out = record { manager = m; letters = out.letters; chosen = out.chosen }

-- It is told and made as the step has it. After want of memory the manager is as it was.
abbrev pub IsMadeOf : Result ManagerOut Wanting → (old new : ManagerState) → ManagerStepped → Type 0
IsMadeOf (Ok out) old new stepped = made new out ≡ stepped
IsMadeOf (Err _) old new stepped = new ≡ old

-- Where the step is refused, that refusal is answered, and nothing changes.
abbrev pub IsStepOf : Result ManagerOut ManagerFault → (old new : ManagerState) → Result ManagerStepped ManagerFault → Type 0
IsStepOf (Ok out) old new step = Ok (made new out) ≡ step
IsStepOf (Err Memory) old new step = new ≡ old
IsStepOf (Err fault) old new step = (Err fault ≡ step) × (new ≡ old)

-- the fault is answered exactly where there is one
abbrev pub IsFaultOf : Result Unit ManagerFault → Option ManagerFault → Type 0
IsFaultOf (Ok _) fault = fault ≡ None
IsFaultOf (Err told) fault = fault ≡ Some told
