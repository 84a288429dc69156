use Rattle.hk_log.proofs.Changes.{changes_are_told}
use Rattle.hk_log.proofs.changes_are_told.Goals as goal

pub returns : goal.returns
returns c = λ records r next others i byte result are f g wrong read. changes_are_told records r next others i byte are f g wrong result read
