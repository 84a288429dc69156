use Rattle.hk_link.proofs.Moves.{parts}
use Rattle.hk_link.proofs.steps.part.Goals as goal

pub another-requires-clause-rule : goal.another-requires-clause-rule
another-requires-clause-rule c = parts _ _
