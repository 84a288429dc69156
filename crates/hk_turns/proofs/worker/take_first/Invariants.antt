use Rattle.std.proofs.Common.{◌≡◌, ℕ, ◌<◌}
use Rattle.hk_turns.specs.Workers.{WasEmptyAt}
use Rattle.hk_turns.proofs.worker.take_first.Given as goal

-- those so far were empty, and nothing was taken
abbrev pub invariant-loop-place : goal.invariant-loop-place
invariant-loop-place g l = (l.inlets.items ≡ l.fn.inlets.items) × ((i : ℕ) → i < l.place → WasEmptyAt i l.fn.inlets.items)
