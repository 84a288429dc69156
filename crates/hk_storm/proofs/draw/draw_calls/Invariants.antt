-- The calls so far, and then those that are drawn of the numbers left, are all.
use Rattle.std.proofs.Common.{◌≡◌, ◌++◌, ◌-◌}
use Rattle.hk_storm.specs.Calls.{drawn_from, drawn_calls}
use Rattle.hk_storm.proofs.draw.draw_calls.Given as goal

abbrev pub invariant-loop-place : goal.invariant-loop-place
invariant-loop-place l = drawn_calls l.opts ≡ l.calls.items ++ drawn_from l.opts l.asks l.place (l.opts.calls - l.place)
