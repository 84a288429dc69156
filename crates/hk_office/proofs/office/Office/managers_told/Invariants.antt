use Rattle.std.proofs.Common.{◌≡◌, map, take}
use Rattle.hk_office.specs.Telling.{manager_told}
use Rattle.hk_office.proofs.office.Office.managers_told.Given as goal

abbrev pub invariant-loop-place : goal.invariant-loop-place
invariant-loop-place l = l.lines ≡ map (manager_told l.self l.now) (take l.place-index l.places)
