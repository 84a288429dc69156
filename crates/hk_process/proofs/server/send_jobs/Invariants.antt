use Rattle.std.proofs.Common.{◌≡◌, ◌+◌, length}
use Rattle.hk_process.proofs.server.send_jobs.Given as goal

-- the queues that are left are those for which there is no job yet
abbrev pub invariant-loop-queue : goal.invariant-loop-queue
invariant-loop-queue g l = length l.jobs.items + length l.queue-iterator.rest.items ≡ length l.fn.queues.items
