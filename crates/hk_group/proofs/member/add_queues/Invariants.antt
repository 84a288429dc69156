use Rattle.std.proofs.Common.{◌≡◌, ◌≤◌, ◌+◌, length}
use Rattle.hk_group.proofs.member.add_queues.Given as goal

-- each number so far has its queue
abbrev pub invariant-loop-number : goal.invariant-loop-number
invariant-loop-number l = (l.number ≤ l.fn.end) × (length l.queues.items + l.fn.from ≡ length l.fn.queues.items + l.number)
