use Rattle.std.proofs.Common.{drop, Option, Result}
use Rattle.hk_restore.specs.declared.fault.RestoreFault.{RestoreFault}
use Rattle.hk_restore.specs.declared.group.RestoredGroup.{RestoredGroup}
use Rattle.hk_restore.specs.Restoring.{behind_records, IsMade}
use Rattle.hk_restore.proofs.records.take_records.Given as goal

-- whatever the rest makes of the group, all records make of it
abbrev pub invariant-loop-index : goal.invariant-loop-index
invariant-loop-index l = (r : Result Unit RestoreFault) (after : Option RestoredGroup) →
    IsMade r (behind_records l.terms l.first (drop l.index l.records) (drop l.index l.starts) l.group) after → IsMade r (behind_records l.terms l.first l.records l.starts l.fn.group) after
