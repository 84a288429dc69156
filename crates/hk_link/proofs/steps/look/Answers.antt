use Rattle.hk_link.proofs.Moves.{looks}
use Rattle.hk_link.proofs.steps.look.Goals as goal

pub learn_as-requires-clause-rule : goal.learn_as-requires-clause-rule
learn_as-requires-clause-rule c = looks _ _
