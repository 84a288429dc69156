use Rattle.std.proofs.Common.{subst}
use Rattle.hk_safety.specs.Kept.{KeptState}
use Rattle.hk_safety.specs.Grown.{AreTouchedAt, IsKeptAfter}
use Rattle.hk_safety.proofs.Puts.{on_ok}
use Rattle.hk_safety.proofs.Making.{kept_after}
use Rattle.hk_safety.proofs.kept.Kept.keep.Goals as goal

pub returns : goal.returns
returns c =
    let old : KeptState = record { world = c.self.inside.world; keys = c.self.inside.keys.entries; calls = c.self.inside.calls.items } in
    let new : KeptState = record { world = c.self.inside.world; keys = c.cover_event.new.keys.entries; calls = c.put_event.new.calls.items } in
    let kept : AreTouchedAt c.args.number c.args.shown.now.acted c.put_replies.new.keys.entries c.cover_event.new.keys.entries old.world c.args.shown.now.letters →
    IsKeptAfter c.args.number c.args.self.now new c.args.event.now c.args.shown.now =
    λ covered. subst (λ (k : KeptState). IsKeptAfter c.args.number k new c.args.event.now c.args.shown.now) c.self.view_is
    (kept_after c.args.number old new c.put_event.new.keys.entries c.put_replies.new.keys.entries c.deref.result.now c.as_slice.result.now
    c.args.event.now c.args.shown.now
    c.in_ok-put_event.ensures.call c.in_ok-put_event.ensures.calls c.deref.ensures.value c.as_slice.ensures c.in_ok-put_replies.ensures covered) in
    on_ok c.cover_event.result kept c.cover_event.ensures
