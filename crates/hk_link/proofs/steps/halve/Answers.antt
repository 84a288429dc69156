use Rattle.hk_link.proofs.Moves.{halves}
use Rattle.hk_link.proofs.steps.halve.Goals as goal

pub another-requires-clause-rule : goal.another-requires-clause-rule
another-requires-clause-rule c = halves _ _
