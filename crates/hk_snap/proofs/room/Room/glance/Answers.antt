use Rattle.std.proofs.Common.{sym, ap, subst, ◌∙◌}
use Rattle.hk_snap.specs.Snapshots.{glance_of}
use Rattle.hk_snap.specs.Layout.{shown_in, AreFront}
use Rattle.hk_snap.proofs.Rooms.{kept_front, kept_glance}
use Rattle.hk_snap.proofs.room.Room.glance.Goals as goal

pub glance-requires : goal.glance-requires
glance-requires c = subst AreFront (sym c.as_slice.ensures.value) (kept_front _ _ c.self.invariant)

pub returns : goal.returns
returns c =
    c.glance.ensures ∙ ((λ i. glance_of (shown_in (c.as_slice.ensures.value i)) (c.bytes.ensures.same i))
    ∙ (kept_glance _ _ _ c.self.invariant ∙ ap (λ o. glance_of o c.args.key.now) c.self.view_is))
