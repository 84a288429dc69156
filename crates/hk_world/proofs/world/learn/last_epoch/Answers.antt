use Rattle.std.proofs.Common.{length, refl, sym}
use Rattle.hk_world.proofs.Viewed.{numbered_last, none_last}
use Rattle.hk_world.proofs.world.learn.last_epoch.Goals as goal

pub returns-in-Some : goal.returns-in-Some
returns-in-Some c = numbered_last c.args.views.now (length c.args.views.now) c.in-Some.view.now refl (sym c.in-Some.ensures)

pub returns-in-None : goal.returns-in-None
returns-in-None c = none_last c.args.views.now (length c.args.views.now) refl (sym c.in-None.ensures)
