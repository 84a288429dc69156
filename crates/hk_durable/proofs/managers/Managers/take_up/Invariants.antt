use Rattle.std.proofs.Common.{List, drop, Result}
use Rattle.hk_manager.specs.declared.fault.ManagerFault.{ManagerFault}
use Rattle.hk_manager.specs.Manager.{ManagerState}
use Rattle.hk_durable.specs.Replays.{all_taken_up, IsAnswered}
use Rattle.hk_durable.proofs.managers.Managers.take_up.Given as goal

-- whatever the rest makes of the managers, all entries make of them
abbrev pub invariant-loop-entry : goal.invariant-loop-entry
invariant-loop-entry l = (r : Result Unit ManagerFault) (after : List ManagerState) → IsAnswered r (all_taken_up (drop l.entry-index l.entries) l.self) after → IsAnswered r (all_taken_up l.entries l.fn.self) after
