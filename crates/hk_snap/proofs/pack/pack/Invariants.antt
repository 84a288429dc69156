use Rattle.std.proofs.Common.{◌≡◌, ◌-◌, ◌*◌, ◌++◌, length, take, drop}
use Rattle.hk_snap.specs.Packed.{words_from}
use Rattle.hk_snap.proofs.pack.pack.Given as goal

abbrev pub invariant-loop-k : goal.invariant-loop-k
invariant-loop-k l =
    (length l.words ≡ length l.fn.words) × (take l.k l.words ++ words_from (length l.fn.words - l.k) (drop (8 * l.k) l.fn.bytes) ≡ words_from (length l.fn.words) l.fn.bytes)
