use Rattle.std.proofs.Common.{◌≡◌, length}
use Rattle.hk_group.proofs.program.Shared.managers.Given as goal

abbrev pub invariant-loop-number : goal.invariant-loop-number
invariant-loop-number g l = length l.jobs.items ≡ l.number
