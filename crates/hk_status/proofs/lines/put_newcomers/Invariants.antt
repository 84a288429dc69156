use Rattle.std.proofs.Common.{◌≡◌, ◌++◌, take}
use Rattle.std.specs.List.{flat_map}
use Rattle.hk_status.specs.Lines.{waiting_line}
use Rattle.hk_status.proofs.lines.put_newcomers.Given as goal

abbrev pub invariant-loop-address : goal.invariant-loop-address
invariant-loop-address l = l.out.items ≡ l.fn.out.items ++ flat_map waiting_line (take l.address-index l.addresses)
