-- The number so far and the bytes that are left give the number of the key.
use Rattle.std.proofs.Common.{◌≡◌, drop}
use Rattle.hk_assemble.specs.Marks.{key_number}
use Rattle.hk_assemble.proofs.mark.key_number.Given as goal

abbrev pub invariant-loop-byte : goal.invariant-loop-byte
invariant-loop-byte l = key_number l.number (drop l.byte-index l.byte-items) ≡ key_number 0 l.byte-items
