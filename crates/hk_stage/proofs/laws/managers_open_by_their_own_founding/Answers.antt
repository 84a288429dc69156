use Rattle.hk_stage.proofs.Steps.{open_for_good, opens_by_its_own}
use Rattle.hk_stage.proofs.laws.managers_open_by_their_own_founding.Goals as goal

pub returns-clause-good : goal.returns-clause-good
returns-clause-good c = open_for_good

pub returns-clause-own : goal.returns-clause-own
returns-clause-own c = opens_by_its_own
