use Rattle.std.proofs.Common.{◌≡◌, Err}
use Rattle.hk_frame.specs.declared.fault.FrameFault.TheVariants as faults
use Rattle.hk_frame.specs.Told.{frame_at}
use Rattle.hk_peer.proofs.Waiting.{wanted_is}
use Rattle.hk_peer.proofs.cutter.PeerCutter.want.Goals as goal

pub invariant_of-self : goal.invariant_of-self
invariant_of-self c =
    let read : frame_at c.self.inside.buffer.unread ≡ Err (faults.Short c.args.wanted) = rw (← c.self.view_is) at c.requires in
    (wanted_is c.args.wanted c.self.inside.buffer.unread read, c.self.invariant.1)
