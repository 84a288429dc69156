-- The groups so far came to these runs.
use Rattle.std.proofs.Common.{take}
use Rattle.hk_storm.specs.Concluded.{AreAssembled}
use Rattle.hk_storm.proofs.follow.follow_all.Given as goal

abbrev pub invariant-loop-group : goal.invariant-loop-group
invariant-loop-group l = AreAssembled l.header (take l.group-index l.groups) l.runs.items
