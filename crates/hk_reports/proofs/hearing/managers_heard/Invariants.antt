use Rattle.std.proofs.Common.{◌≡◌, ◌++◌, map, drop}
use Rattle.hk_reports.specs.Hearing.{manager_heard, places}
use Rattle.hk_reports.proofs.hearing.managers_heard.Given as goal

abbrev pub invariant-loop-place : goal.invariant-loop-place
invariant-loop-place l = l.managers ++ map (manager_heard l.now l.came) (drop l.place-index (places l.count)) ≡ map (manager_heard l.now l.came) (places l.count)
