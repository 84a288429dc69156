use Rattle.std.proofs.Common.{◌≡◌, ◌++◌, take, ap}
use Rattle.hk_buffer.specs.Held.{Held}
use Rattle.hk_peer.proofs.Keeping.{wanted_all, fault_all}
use Rattle.hk_peer.proofs.cutter.PeerCutter.filled.Goals as goal

pub invariant_of-self : goal.invariant_of-self
invariant_of-self c =
    let before = c.self.inside.buffer in
    let after = c.filled.new.self in
    let piece = take c.args.count before.room in
    let more : after.unread ≡ before.unread ++ piece = ap (λ (h : Held). h.unread) c.filled.ensures in
    (wanted_all c.self.inside.wanted before.unread piece after.unread more c.self.invariant.0, fault_all c.self.inside.fault before.unread piece after.unread more c.self.invariant.1)
