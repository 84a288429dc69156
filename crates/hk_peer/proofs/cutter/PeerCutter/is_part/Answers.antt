use Rattle.std.proofs.Common.{ℕ, ◌<◌, length, subst}
use Rattle.std.proofs.lemmas.Bool.{ltb-true}
use Rattle.hk_peer.proofs.Waiting.{wanted_now}
use Rattle.hk_peer.proofs.cutter.PeerCutter.is_part.Goals as goal

pub returns : goal.returns
returns c =
    rw (← c.self.view_is) (λ few.
    let held = c.self.inside.buffer.unread in
    let less : length held < c.self.inside.wanted = subst (λ (n : ℕ). n < c.self.inside.wanted) c.unread_len.ensures (ltb-true _ _ few) in
    wanted_now c.self.inside.wanted held c.self.invariant.0 less)
