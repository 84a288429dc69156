use Rattle.std.proofs.Common.{◌≤◌, ◌-◌}
use Rattle.hk_worker.proofs.Telling.{WaitsOn}
use Rattle.hk_worker.proofs.waiting.wait.Given as goal

-- the looks so far, each of which found that nothing was told
abbrev pub invariant-loop-looked : goal.invariant-loop-looked
invariant-loop-looked g l = WaitsOn l.looked l.key l.ticket l.fn.reader l.reader × (l.looked ≤ 100000)

abbrev pub decreases-loop-looked : goal.decreases-loop-looked
decreases-loop-looked g l = 100000 - l.looked
