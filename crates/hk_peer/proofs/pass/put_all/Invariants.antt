use Rattle.std.proofs.Common.{length}
use Rattle.hk_link.specs.Ends.{IsSameLink}
use Rattle.hk_peer.specs.Parcels.{Passes}
use Rattle.hk_peer.proofs.pass.put_all.Given as goal

abbrev pub invariant-loop-parcel : goal.invariant-loop-parcel
invariant-loop-parcel g l = IsSameLink l.outlet l.fn.outlet × Passes l.course l.fn.cutter.unread l.cutter.unread l.fn.outlet.known l.outlet.known

abbrev pub decreases-loop-parcel : goal.decreases-loop-parcel
decreases-loop-parcel g l = length l.cutter.unread
