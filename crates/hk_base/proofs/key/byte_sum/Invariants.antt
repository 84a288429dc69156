use Rattle.std.proofs.Common.{◌≡◌, ◌+◌, ◌*◌, ◌≤◌, sum, drop}
use Rattle.hk_base.proofs.key.byte_sum.Given as goal

abbrev pub invariant-loop-byte : goal.invariant-loop-byte
invariant-loop-byte l = (l.sum + sum (drop l.byte-index l.bytes) ≡ sum l.bytes) × (l.sum ≤ 255 * l.byte-index)
