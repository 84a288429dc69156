use Rattle.std.proofs.Common.{length, ◌-◌}
use Rattle.hk_safety.proofs.Forward.{IsForward}
use Rattle.hk_safety.proofs.placed.bring_forward.Given as goal

-- the entries from here on are where they belong
abbrev pub invariant-loop-turn : goal.invariant-loop-turn
invariant-loop-turn l = IsForward l.last l.fn.placed.items l.placed.items (length l.fn.placed.items - l.turn) l.least
