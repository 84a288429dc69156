use Rattle.std.proofs.Common.{◌≡◌, ◌∙◌, false, Ok, Some, refl, sym, ap, subst}
use Rattle.hk_base.specs.declared.view.View.{View}
use Rattle.hk_world.specs.declared.shown.Shown.{Shown}
use Rattle.hk_world.specs.World.{WorldState, last_view}
use Rattle.hk_world.specs.Steps.{agrees, nothing}
use Rattle.hk_world.specs.Allowed.{is_managed}
use Rattle.hk_world.specs.Views.{next_of}
use Rattle.hk_world.proofs.Allowed.{no_managers}
use Rattle.hk_world.proofs.Changed.{agree_made, told_views}
use Rattle.hk_world.proofs.Inside.{seen}
use Rattle.hk_world.proofs.Soundness.{SoundIf, agrees_sound}
use Rattle.hk_world.proofs.world.World.agree.Goals as goal

pub invariant_of-self-2 : goal.invariant_of-self-2
invariant_of-self-2 c =
    let w : WorldState = seen c.self.inside in
    let none : is_managed w.managers ≡ false = ap (λ (o : WorldState). is_managed o.managers) c.self.view_is ∙ sym c.is_managed.ensures ∙ c.if-is_managed.false in
    let last : c.last_view.result.now ≡ last_view w.views = c.last_view.ensures ∙ ap (λ (o : WorldState). last_view o.views) (sym c.self.view_is) in
    let next : next_of (last_view w.views) c.args.change ≡ Ok c.in-Ok.next = ap (λ (v : View). next_of v c.args.change) (sym last) ∙ c.in-Ok.ensures in
    let shown : Shown = record nothing { view = Some c.in-Ok.next } in
    let made : agrees w (last_view w.views) c.args.change ≡ told_views w shown c.add.new.views.items = agree_made w c.args.change c.in-Ok.next c.add.new.views.items shown next c.in_ok-shown.ensures.ok refl in
    (c.self.invariant.0, subst SoundIf made (agrees_sound w c.args.change c.self.invariant.1 (no_managers w.managers none)))
