use Rattle.std.proofs.Common.{take}
use Rattle.std.specs.List.{flat_map}
use Rattle.hk_safety.specs.Grown.{AreCovered, changed_touches}
use Rattle.hk_safety.proofs.cover.cover_changed.Given as goal

-- the rows so far are covered
abbrev pub invariant-loop-prior : goal.invariant-loop-prior
invariant-loop-prior l = AreCovered l.view l.cover l.fn.keys.entries l.keys.entries (flat_map (changed_touches l.node l.rose) (take l.prior-index l.rows))
