use Rattle.std.proofs.Common.{drop, Option, Result}
use Rattle.hk_restore.specs.declared.fault.RestoreFault.{RestoreFault}
use Rattle.hk_restore.specs.declared.group.RestoredGroup.{RestoredGroup}
use Rattle.hk_restore.specs.Restoring.{behind_entries, IsMade}
use Rattle.hk_restore.proofs.records.take_record.Given as goal

-- whatever the rest makes of the group, all entries make of it
abbrev pub invariant-loop-entry : goal.invariant-loop-entry
invariant-loop-entry l = (r : Result Unit RestoreFault) (after : Option RestoredGroup) →
    IsMade r (behind_entries l.terms l.first l.at (drop l.entry-index l.entries) l.group) after → IsMade r (behind_entries l.terms l.first l.at l.entries l.fn.group) after
