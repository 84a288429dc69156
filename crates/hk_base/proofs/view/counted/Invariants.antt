use Rattle.std.proofs.Common.{◌≡◌}
use Rattle.hk_base.specs.View.{counted}
use Rattle.hk_base.proofs.view.counted.Given as goal

-- so far they are the numbers so far
abbrev pub invariant-loop-number : goal.invariant-loop-number
invariant-loop-number l = l.ids.items ≡ counted 0 l.number
