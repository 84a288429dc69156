use Rattle.hk_parts.specs.EventKinds.{IsAgree}
use Rattle.hk_parts.proofs.Runs.{views_kept}
use Rattle.hk_inv_view.proofs.keeps_agree.Goals as goal

pub returns : goal.returns
returns c = views_kept c.runs_hold.ensures IsAgree
