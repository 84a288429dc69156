use Rattle.hk_link.proofs.Moves.{begins}
use Rattle.hk_link.proofs.steps.queue.Goals as goal

pub ruled-requires-clause-rule : goal.ruled-requires-clause-rule
ruled-requires-clause-rule c = begins
