use Rattle.hk_parts.specs.EventKinds.{IsCall}
use Rattle.hk_parts.proofs.Runs.{rmws_kept}
use Rattle.hk_inv_rmw.proofs.keeps_call.Goals as goal

pub returns : goal.returns
returns c = rmws_kept c.runs_hold.ensures IsCall
