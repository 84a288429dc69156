use Rattle.std.proofs.Common.{length}
use Rattle.hk_log.proofs.Bodies.{SoFar}
use Rattle.hk_log.proofs.records.read_body.Given as goal

abbrev pub invariant-loop-rest : goal.invariant-loop-rest
invariant-loop-rest l = SoFar l.entries l.body l.rest

abbrev pub decreases-loop-rest : goal.decreases-loop-rest
decreases-loop-rest l = length l.rest
