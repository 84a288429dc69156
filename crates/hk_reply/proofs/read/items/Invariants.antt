use Rattle.std.proofs.Common.{◌≡◌, ◌+◌, ◌-◌, length}
use Rattle.std.specs.Prelude.{◌∷◌, []}
use Rattle.hk_reply.specs.Reading.{items_at, with_items}
use Rattle.hk_reply.proofs.read.items.Given as goal

abbrev pub invariant-loop-turn : goal.invariant-loop-turn
invariant-loop-turn l = with_items (l.fn.first ∷ []) (items_at (length l.bytes + 1) l.tags l.bytes) ≡ with_items l.items (items_at (length l.bytes + 1 - l._turn) l.tags l.rest)
