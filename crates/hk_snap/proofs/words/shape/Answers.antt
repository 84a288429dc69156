use Rattle.std.proofs.Common.{rules, subst}
use Rattle.hk_snap.specs.Packed.{AreBytes}
use Rattle.hk_snap.proofs.Shows.{small_bytes}
use Rattle.hk_snap.proofs.words.shape.Goals as goal

pub returns-clause-bytes : goal.returns-clause-bytes
returns-clause-bytes c =
    let all : AreBytes c.bytes-small.result.now = search rules in
    rw c.in-Some.is (small_bytes c.in-Some.content (subst AreBytes c.bytes-small.ensures.same all))
