-- What holds of every step of a manager.
use Rattle.std.specs.Prelude.{Result, Ok, Err, ⊤, ◌≤◌, length}
use Rattle.std.specs.List.{AllByRecursion}
use Rattle.hk_base.specs.Range.{IsLetter}
use Rattle.hk_manager.specs.declared.event.ManagerEvent.{ManagerEvent}
use Rattle.hk_manager.specs.declared.fault.ManagerFault.{ManagerFault}
use Rattle.hk_manager.specs.Manager.{ManagerState}
use Rattle.hk_manager.specs.Steps.{ManagerStepped, manager_step}
use Rattle.hk_manager.specs.Sound.{IsManager, IsManagerEvent}

-- it holds of the step, where that is not refused
abbrev pub OfStep : (ManagerStepped → Type 0) → Result ManagerStepped ManagerFault → Type 0
OfStep P (Ok stepped) = P stepped
OfStep P (Err fault) = ⊤

-- a step keeps what every manager keeps
abbrev pub StepKeepsManager : Type 0
StepKeepsManager = (m : ManagerState) (event : ManagerEvent) → IsManager m → IsManagerEvent event → OfStep (λ stepped. IsManager stepped.manager) (manager_step m event)

-- a manager sends only letters that are in range, 16 at most
abbrev pub LettersInRange : Type 0
LettersInRange = (m : ManagerState) (event : ManagerEvent) → IsManager m → IsManagerEvent event →
    OfStep (λ stepped. AllByRecursion IsLetter stepped.letters × (length stepped.letters ≤ 16)) (manager_step m event)
