use Rattle.std.proofs.Common.{◌≡◌}
use Rattle.hk_locked.proofs.Reading.{MeetsOn}
use Rattle.hk_locked.proofs.locked.LockedShard.look_on.Given as goal

-- the loads so far; the shard is as it was
abbrev pub invariant-loop-met : goal.invariant-loop-met
invariant-loop-met g l = MeetsOn l._met l.key l.fn.reader l.reader × (l.self ≡ l.fn.self)
