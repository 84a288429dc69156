use Rattle.std.proofs.Common.{◌≡◌}
use Rattle.std.specs.Prelude.{None}
use Rattle.hk_peer.proofs.Keeping.{no_fault}
use Rattle.hk_peer.proofs.Waiting.{first_wanted}
use Rattle.hk_peer.proofs.cutter.PeerCutter.give.Goals as goal

pub invariant_of-self : goal.invariant_of-self
invariant_of-self c =
    let none : c.self.inside.fault ≡ None = rw (← c.self.view_is) at c.requires.none in
    (first_wanted c.skip.new.self.unread, no_fault c.self.inside.fault c.skip.new.self.unread none)
