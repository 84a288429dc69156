use Rattle.hk_status.proofs.Lengths.{small_statuses_fit}
use Rattle.hk_status.proofs.laws.small_statuses_fit.Goals as goal

pub returns : goal.returns
returns c = small_statuses_fit
