use Rattle.hk_parts.specs.EventKinds.{IsActivate}
use Rattle.hk_parts.proofs.Runs.{updates_kept}
use Rattle.hk_inv_fix.proofs.keeps_activate.Goals as goal

pub returns : goal.returns
returns c = updates_kept c.runs_hold.ensures IsActivate
