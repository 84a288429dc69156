use Rattle.std.proofs.Common.{◌≡◌, ◌++◌, take}
use Rattle.std.specs.List.{flat_map}
use Rattle.hk_status.specs.Lines.{manager_line}
use Rattle.hk_status.proofs.lines.put_managers.Given as goal

abbrev pub invariant-loop-manager : goal.invariant-loop-manager
invariant-loop-manager l = l.out.items ≡ l.fn.out.items ++ flat_map manager_line (take l.manager-index l.managers)
