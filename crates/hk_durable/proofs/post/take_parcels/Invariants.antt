use Rattle.std.proofs.Common.{◌≤◌, length}
use Rattle.hk_durable.specs.Turns.{AreTaken}
use Rattle.hk_durable.proofs.post.take_parcels.Given as goal

-- those so far were taken
abbrev pub invariant-loop-taken : goal.invariant-loop-taken
invariant-loop-taken g l = AreTaken l.parcels.items l.fn.inlet l.inlet × (length l.parcels.items ≤ l._taken)
