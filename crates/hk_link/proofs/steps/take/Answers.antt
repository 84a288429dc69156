use Rattle.hk_link.proofs.Moves.{takes, looks}
use Rattle.hk_link.proofs.steps.take.Goals as goal

pub pop_as-requires-clause-rule : goal.pop_as-requires-clause-rule
pop_as-requires-clause-rule g c = (takes _ _ c.requires.share, looks _ _)
