use Rattle.hk_parts.specs.EventKinds.{IsReplay}
use Rattle.hk_parts.proofs.Runs.{updates_kept}
use Rattle.hk_inv_fix.proofs.keeps_replay.Goals as goal

pub returns : goal.returns
returns c = updates_kept c.runs_hold.ensures IsReplay
