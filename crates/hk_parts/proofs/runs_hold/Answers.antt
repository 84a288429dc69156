use Rattle.hk_parts.proofs.Runs.{runs_hold}
use Rattle.hk_parts.proofs.runs_hold.Goals as goal

pub returns : goal.returns
returns c = runs_hold c.runs_keep_parts.ensures
