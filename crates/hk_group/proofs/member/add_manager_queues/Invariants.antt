use Rattle.std.proofs.Common.{◌≡◌, ◌+◌, length}
use Rattle.hk_group.proofs.member.add_manager_queues.Given as goal

-- each manager so far has its queue
abbrev pub invariant-loop-number : goal.invariant-loop-number
invariant-loop-number l = length l.queues.items ≡ length l.fn.queues.items + l.number
