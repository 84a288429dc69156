use Rattle.hk_parts.specs.EventKinds.{IsTickAll}
use Rattle.hk_parts.proofs.Runs.{views_kept}
use Rattle.hk_inv_view.proofs.keeps_tick_all.Goals as goal

pub returns : goal.returns
returns c = views_kept c.runs_hold.ensures IsTickAll
