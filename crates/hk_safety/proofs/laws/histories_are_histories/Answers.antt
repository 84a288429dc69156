use Rattle.hk_safety.proofs.Lines.{histories_are}
use Rattle.hk_safety.proofs.laws.histories_are_histories.Goals as goal

pub returns : goal.returns
returns c = histories_are c.runs_keep_parts.ensures
