use Rattle.std.proofs.Common.{◌≡◌, ◌≤◌, length}
use Rattle.hk_reply.specs.Scans.{number_from}
use Rattle.hk_reply.proofs.scan.number_from.Given as goal

abbrev pub invariant-loop-byte : goal.invariant-loop-byte
invariant-loop-byte l = (l.n ≤ l.limit) × (number_from l.limit l.tail l.front l.bytes ≡ number_from l.limit l.tail l.n l.rest)

abbrev pub decreases-loop-byte : goal.decreases-loop-byte
decreases-loop-byte l = length l.rest
