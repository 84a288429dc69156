use Rattle.std.proofs.Common.{◌≡◌, take}
use Rattle.std.specs.List.{flat_map}
use Rattle.hk_office.specs.Telling.{waits_told}
use Rattle.hk_office.proofs.office.Office.waits_told.Given as goal

abbrev pub invariant-loop-node : goal.invariant-loop-node
invariant-loop-node l = l.waits.items ≡ flat_map (waits_told l.self) (take l.node-index l.nodes)
