use Rattle.hk_peer.proofs.Keeping.{came, wanted_all, fault_all}
use Rattle.hk_peer.proofs.cutter.PeerCutter.feed.Goals as goal

pub invariant_of-self : goal.invariant_of-self
invariant_of-self c =
    let before = c.self.inside.buffer in
    let after = c.feed.new.self in
    let more = came c.feed.result before after c.args.piece.now c.feed.ensures.ok c.feed.ensures.err in
    (wanted_all c.self.inside.wanted before.unread more.0 after.unread more.1 c.self.invariant.0, fault_all c.self.inside.fault before.unread more.0 after.unread more.1 c.self.invariant.1)
