use Rattle.std.specs.Option.{option_copied}
use Rattle.hk_safety.proofs.Covering.{AreSeen}
use Rattle.hk_safety.proofs.cover.cover_open.Given as goal

-- the open rows that are not beyond the last key are covered
abbrev pub invariant-loop-turn : goal.invariant-loop-turn
invariant-loop-turn l = AreSeen l.view l.cover l.fn.keys.entries l.keys.entries l.node (option_copied l.after)
