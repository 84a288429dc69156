use Rattle.std.proofs.Common.{◌≡◌, ◌++◌, drop}
use Rattle.std.specs.List.{flat_map}
use Rattle.hk_script.specs.Words.{spelled}
use Rattle.hk_script.proofs.put.put_bytes.Given as goal

abbrev pub invariant-loop-byte : goal.invariant-loop-byte
invariant-loop-byte l = l.out.items ++ flat_map spelled (drop l.byte-index l.bytes) ≡ l.fn.out.items ++ flat_map spelled l.bytes
