use Rattle.std.proofs.Common.{◌≡◌, take}
use Rattle.hk_office.proofs.telling.copies_of.Given as goal

abbrev pub invariant-loop-view : goal.invariant-loop-view
invariant-loop-view l = l.copies ≡ take l.view-index l.views
