use Rattle.hk_link.proofs.Moves.{puts, looks}
use Rattle.hk_link.proofs.steps.put.Goals as goal

pub push_as-requires-clause-rule : goal.push_as-requires-clause-rule
push_as-requires-clause-rule g c = (puts _ _ _ _ c.requires.share, looks _ _)
