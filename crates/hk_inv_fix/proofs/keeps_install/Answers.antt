use Rattle.hk_parts.specs.EventKinds.{IsInstall}
use Rattle.hk_parts.proofs.Runs.{updates_kept}
use Rattle.hk_inv_fix.proofs.keeps_install.Goals as goal

pub returns : goal.returns
returns c = updates_kept c.runs_hold.ensures IsInstall
