use Rattle.hk_parts.specs.EventKinds.{IsInstall}
use Rattle.hk_parts.proofs.Runs.{rmws_kept}
use Rattle.hk_inv_rmw.proofs.keeps_install.Goals as goal

pub returns : goal.returns
returns c = rmws_kept c.runs_hold.ensures IsInstall
