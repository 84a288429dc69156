use Rattle.std.proofs.Common.{◌≡◌, take}
use Rattle.std.specs.List.{flat_map}
use Rattle.hk_office.specs.Telling.{waiting_by}
use Rattle.hk_office.proofs.telling.waiting_told.Given as goal

abbrev pub invariant-loop-came : goal.invariant-loop-came
invariant-loop-came l = l.waiting.items ≡ flat_map (waiting_by l.now l.lease) (take l.came-index l.reports)
