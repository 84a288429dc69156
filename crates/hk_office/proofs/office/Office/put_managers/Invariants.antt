use Rattle.std.proofs.Common.{◌≡◌, ◌++◌, take}
use Rattle.std.specs.List.{flat_map}
use Rattle.hk_office.specs.Board.{manager_at}
use Rattle.hk_office.proofs.office.Office.put_managers.Given as goal

abbrev pub invariant-loop-place : goal.invariant-loop-place
invariant-loop-place l = l.lines.items ≡ l.fn.lines.items ++ flat_map (manager_at l.self) (take l.place-index l.places)
