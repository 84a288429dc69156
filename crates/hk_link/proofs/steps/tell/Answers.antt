use Rattle.hk_link.proofs.Moves.{tells}
use Rattle.hk_link.proofs.steps.tell.Goals as goal

pub another-requires-clause-rule : goal.another-requires-clause-rule
another-requires-clause-rule c = tells _ _
