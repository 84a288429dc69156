use Rattle.std.proofs.Common.{◌≡◌, [], drop}
use Rattle.hk_office.specs.Numbers.{with_views}
use Rattle.hk_office.proofs.numbers.numbers.Given as goal

abbrev pub invariant-loop-view : goal.invariant-loop-view
invariant-loop-view l = with_views l.found.items (drop l.view-index l.views) ≡ with_views [] l.views
