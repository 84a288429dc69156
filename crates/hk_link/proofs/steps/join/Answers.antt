use Rattle.hk_link.proofs.Moves.{merges}
use Rattle.hk_link.proofs.steps.join.Goals as goal

pub absorb-requires-clause-rule : goal.absorb-requires-clause-rule
absorb-requires-clause-rule c = merges _ _ _ _
