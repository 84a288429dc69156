use Rattle.std.proofs.Common.{◌≡◌, true, false}
use Rattle.hk_link.specs.Ends.{IsPut}
use Rattle.hk_peer.specs.Parcels.{is_on}
use Rattle.hk_peer.proofs.Framing.{passes_one, passes_on, same_link}
use Rattle.hk_peer.proofs.pass.put_all.Goals as goal

pub loop-parcel-preserved : goal.loop-parcel-preserved
loop-parcel-preserved g c =
    let step = rw c.in-Ok-Parcel.field-0-is at c.in-Ok-Parcel.ensures.step in
    let put : is_on c.args.course c.in-Ok-Parcel.parcel ≡ true → IsPut c.loop-parcel.outlet.known c.in-Ok-Parcel.parcel c.pass_on.new.outlet.known = rw c.in-Ok.is at c.pass_on.ensures.put in
    let lost : is_on c.args.course c.in-Ok-Parcel.parcel ≡ false → c.pass_on.new.outlet.known ≡ c.loop-parcel.outlet.known = rw c.in-Ok.is at c.pass_on.ensures.lost in
    let one = passes_one c.args.course c.in-Ok-Parcel.parcel c.loop-parcel.cutter.unread c.next.new.self.unread c.loop-parcel.outlet.known c.pass_on.new.outlet.known step.0 step.1 put lost in (
      same_link c.pass_on.new.outlet c.loop-parcel.outlet c.args.outlet.now c.pass_on.ensures.link c.loop-parcel.invariant.0,
      passes_on c.args.course c.args.cutter.now.unread c.loop-parcel.cutter.unread c.next.new.self.unread c.args.outlet.now.known c.loop-parcel.outlet.known c.pass_on.new.outlet.known c.loop-parcel.invariant.1 one,
    )
