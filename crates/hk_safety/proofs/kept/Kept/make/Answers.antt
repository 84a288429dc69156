use Rattle.std.proofs.Common.{sym, subst}
use Rattle.std.specs.List.{AllByRecursion}
use Rattle.hk_base.specs.Range.{IsLetter}
use Rattle.hk_world.specs.declared.shown.Shown.{Shown}
use Rattle.hk_world.specs.World.{WorldState}
use Rattle.hk_world.specs.Sound.{IsWorld}
use Rattle.hk_safety.specs.Kept.{KeptState}
use Rattle.hk_safety.specs.Noted.{MayMake, IsMade}
use Rattle.hk_safety.specs.Grown.{ArePrior, IsKeptAfter}
use Rattle.hk_safety.proofs.Making.{with_world, world_after, shown_within, is_made}
use Rattle.hk_safety.proofs.kept.Kept.make.Goals as goal

pub keep-requires-clause-sound : goal.keep-requires-clause-sound
keep-requires-clause-sound c =
    let old : KeptState = record { world = c.self.inside.world; keys = c.self.inside.keys.entries; calls = c.self.inside.calls.items } in
    let may : MayMake old c.args.event.now = subst (λ (k : KeptState). MayMake k c.args.event.now) (sym c.self.view_is) c.requires in
    let step = c.in-Ok.ensures in
    subst IsWorld step.3 (world_after old.world c.args.event.now step.0 may.own may.event step.1)

pub keep-requires-clause-rows : goal.keep-requires-clause-rows
keep-requires-clause-rows c =
    let old : KeptState = record { world = c.self.inside.world; keys = c.self.inside.keys.entries; calls = c.self.inside.calls.items } in
    let may : MayMake old c.args.event.now = subst (λ (k : KeptState). MayMake k c.args.event.now) (sym c.self.view_is) c.requires in
    let step = c.in-Ok.ensures in
    subst (λ (s : Shown). ArePrior s.acted) step.2 (shown_within old.world c.args.event.now step.0 may.own may.event step.1).1

pub keep-requires-clause-letters : goal.keep-requires-clause-letters
keep-requires-clause-letters c =
    let old : KeptState = record { world = c.self.inside.world; keys = c.self.inside.keys.entries; calls = c.self.inside.calls.items } in
    let may : MayMake old c.args.event.now = subst (λ (k : KeptState). MayMake k c.args.event.now) (sym c.self.view_is) c.requires in
    let step = c.in-Ok.ensures in
    subst (λ (s : Shown). AllByRecursion IsLetter s.letters) step.2 (shown_within old.world c.args.event.now step.0 may.own may.event step.1).0

pub returns-in-Ok-keep : goal.returns-in-Ok-keep
returns-in-Ok-keep c =
    let old : KeptState = record { world = c.self.inside.world; keys = c.self.inside.keys.entries; calls = c.self.inside.calls.items } in
    let may : MayMake old c.args.event.now = subst (λ (k : KeptState). MayMake k c.args.event.now) (sym c.self.view_is) c.requires in
    let step = c.in-Ok.ensures in
    let kept : IsKeptAfter c.args.number (with_world old step.0.world) c.keep.new.self c.args.event.now step.0.shown =
    subst (λ (s : Shown). IsKeptAfter c.args.number (with_world old step.0.world) c.keep.new.self c.args.event.now s) (sym step.2)
    (subst (λ (w : WorldState). IsKeptAfter c.args.number (with_world old w) c.keep.new.self c.args.event.now c.in-Ok.shown) (sym step.3) c.in-Ok-keep.ensures) in
    let made : IsMade c.args.number old c.keep.new.self c.args.event.now step.0 =
    is_made c.args.number old c.args.event.now may step.0 step.1 c.keep.new.self kept in
    (step.0, step.2, subst (λ (k : KeptState). IsMade c.args.number k c.keep.new.self c.args.event.now step.0) c.self.view_is made)
