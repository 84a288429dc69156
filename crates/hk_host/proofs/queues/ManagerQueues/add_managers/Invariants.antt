use Rattle.std.proofs.Common.{◌≡◌, ◌≤◌, ◌+◌, length}
use Rattle.hk_host.proofs.queues.ManagerQueues.add_managers.Given as goal

-- each number so far has its queue
abbrev pub invariant-loop-number : goal.invariant-loop-number
invariant-loop-number l = (l.number ≤ l.fn.end) × (length l.self.queues.items + l.fn.from ≡ length l.fn.self.queues.items + l.number)
