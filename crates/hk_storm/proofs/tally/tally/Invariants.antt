-- It tells of the calls so far.
use Rattle.std.proofs.Common.{take}
use Rattle.hk_storm.specs.Tallied.{IsTally}
use Rattle.hk_storm.proofs.tally.tally.Given as goal

abbrev pub invariant-loop-call : goal.invariant-loop-call
invariant-loop-call l = IsTally l.tally.entries (take l.call-index l.calls)
