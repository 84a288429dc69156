use Rattle.std.proofs.Common.{◌≡◌, ◌-◌, ℕ, length, get_or, arith, ap, ◌∙◌}
use Rattle.hk_world.specs.World.{WorldState, last_view}
use Rattle.hk_world.proofs.Allowed.{last_at}
use Rattle.hk_world.proofs.world.World.last_view.Goals as goal

pub returns : goal.returns
returns c =
    let long : c.len.result ≡ length c.self.inside.views.items = omega (arith, c.len.ensures, c.self.inside.views.ok.0) in
    c.index.ensures
    ∙ ap (λ (n : ℕ). get_or c.self.inside.views.items (n - 1) c.index.result.now) long
    ∙ last_at c.self.inside.views.items c.index.result.now c.self.invariant.1.some
    ∙ ap (λ (w : WorldState). last_view w.views) c.self.view_is
