use Rattle.std.proofs.Common.{◌≡◌, ◌++◌, [], drop}
use Rattle.hk_world.specs.Start.{start}
use Rattle.hk_safety.specs.Run.{AreAccepted}
use Rattle.hk_safety.specs.Shows.{lines_from}
use Rattle.hk_safety.proofs.again.again.Given as goal

-- the lines so far, and then those of the events that are left, are all
abbrev pub invariant-loop-event : goal.invariant-loop-event
invariant-loop-event l = AreAccepted l.world (drop l.event-index l.events)
    × (l.items ++ lines_from l.key l.world l.calls.items (drop l.event-index l.events) ≡ lines_from l.key (start l.fn.header) [] l.events)
