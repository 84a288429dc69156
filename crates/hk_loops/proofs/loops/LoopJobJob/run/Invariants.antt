use Rattle.std.proofs.Common.{◌≡◌, length}
use Rattle.hk_loops.proofs.loops.LoopJobJob.run.Given as goal

abbrev pub invariant-loop : goal.invariant-loop
invariant-loop g l =
    (goal.iterator-loop g).can_next l.iterator' × (goal.iterator-loop g).is_finite l.iterator' × (length l.room.items ≡ 32768)
