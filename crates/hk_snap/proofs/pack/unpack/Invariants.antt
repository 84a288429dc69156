use Rattle.std.proofs.Common.{◌≡◌, ◌*◌, length, take}
use Rattle.hk_snap.specs.Packed.{unpacked}
use Rattle.hk_snap.proofs.pack.unpack.Given as goal

abbrev pub invariant-loop-k : goal.invariant-loop-k
invariant-loop-k l = (length l.room ≡ 8 * length l.fn.words) × (take (8 * l.k) l.room ≡ unpacked (take l.k l.fn.words))
