use Rattle.std.proofs.Common.{◌∷◌, [], refl, subst}
use Rattle.hk_safety.specs.Kept.{KeyState}
use Rattle.hk_safety.specs.Grown.{IsCoveredAt, IsCovered}
use Rattle.hk_safety.proofs.Puts.{on_ok}
use Rattle.hk_safety.proofs.Covering.{covered_stamp}
use Rattle.hk_safety.proofs.key_run.KeyRun.cover.Goals as goal

pub returns : goal.returns
returns c =
    let old : KeyState = record { items = c.self.inside.items; stamps = c.self.inside.stamps.entries } in
    let new : KeyState = record { items = c.self.inside.items; stamps = c.cover_stamp.new.stamps.entries } in
    let covered : IsCoveredAt old.stamps new.stamps c.args.tag c.args.view.now c.args.cover → IsCovered c.args.view.now c.args.cover c.args.self.now new (c.args.tag ∷ []) =
    λ at. subst (λ (k : KeyState). IsCovered c.args.view.now c.args.cover k new (c.args.tag ∷ [])) c.self.view_is
    (covered_stamp c.args.view.now c.args.cover old new c.args.tag refl at) in
    on_ok c.cover_stamp.result covered c.cover_stamp.ensures
