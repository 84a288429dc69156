use Rattle.std.proofs.Common.{◌≡◌, ◌≤◌, ◌+◌, drop, take, length}
use Rattle.hk_reply.specs.Scans.{key_from}
use Rattle.hk_reply.proofs.Parts.{with_front}
use Rattle.hk_base.specs.declared.key.TheConstants.{MAX_KEY_LEN}
use Rattle.hk_reply.proofs.scan.key.Given as goal

abbrev pub invariant-loop-byte : goal.invariant-loop-byte
invariant-loop-byte l = record { short : l.len ≤ MAX_KEY_LEN; within : l.len + length l.rest ≡ length l.bytes; rest : l.rest ≡ drop l.len l.bytes; read : key_from 0 l.bytes ≡ with_front (take l.len l.bytes) (key_from l.len l.rest) }

abbrev pub decreases-loop-byte : goal.decreases-loop-byte
decreases-loop-byte l = length l.rest
