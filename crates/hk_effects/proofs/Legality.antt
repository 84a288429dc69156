-- The printed order of a key is legal after every run of a world.
use Rattle.std.proofs.Common.{ℕ, List, sym, ap}
use Rattle.hk_register.specs.Printed.{printed, PrintedIsPrinted, SlotsAreLegal}
use Rattle.hk_world.specs.World.{WorldState}
use Rattle.hk_effects.specs.Projection.{project}
use Rattle.hk_effects.specs.Own.{IsOwn, Agrees}
use Rattle.hk_effects.specs.Runs.{RunsKeepParts}
use Rattle.hk_effects.specs.Orders.{members_or_none, family, OrdersAreLegal}
use Rattle.hk_effects.proofs.Chain.{own_place}

-- the family of the agreed views has the members of each
pub own_agrees : (w : WorldState) → IsOwn w → Agrees w (family w.views)
own_agrees w own v h = sym (ap members_or_none (own_place w.views own.epochs v h))

pub orders_legal : RunsKeepParts → PrintedIsPrinted → SlotsAreLegal → OrdersAreLegal
orders_legal runs is_printed are_legal h header key events last follows =
    let kept = runs h header key events last follows in
    let V : ℕ → List ℕ = family last.world.views in
    let parts = kept.parts V (own_agrees last.world kept.own) in
    are_legal V (project key last) parts kept.calls (printed V (project key last)) (is_printed V (project key last) parts)
