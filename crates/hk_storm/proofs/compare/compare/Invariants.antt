-- The drawn calls so far were made as often.
use Rattle.hk_storm.specs.Calls.{AreAsOften}
use Rattle.hk_storm.proofs.compare.compare.Given as goal

abbrev pub invariant-loop-place : goal.invariant-loop-place
invariant-loop-place l = AreAsOften l.drawn l.made l.place
