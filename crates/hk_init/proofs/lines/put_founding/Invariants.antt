use Rattle.std.proofs.Common.{◌≡◌, ◌++◌, drop}
use Rattle.std.specs.List.{flat_map}
use Rattle.hk_init.specs.Lines.{hex_byte}
use Rattle.hk_init.proofs.lines.put_founding.Given as goal

abbrev pub invariant-loop-byte : goal.invariant-loop-byte
invariant-loop-byte l = l.out.items ++ flat_map hex_byte (drop l.byte-index l.byte-items) ≡ l.initial.out.items ++ flat_map hex_byte l.byte-items
