use Rattle.std.proofs.Common.{◌≡◌, ◌*◌, length}
use Rattle.hk_group.proofs.program.Shared.workers.Given as goal

abbrev pub invariant-loop-place : goal.invariant-loop-place
invariant-loop-place g l = (length l.all_ends.items ≡ length l.fn.all_ends.items) × (length l.jobs.items ≡ l.place * l.fn.count)
