use Rattle.hk_stage.proofs.Steps.{found_while_reserved, log_tells}
use Rattle.hk_stage.proofs.laws.foundings_are_logged.Goals as goal

pub returns-clause-reserved : goal.returns-clause-reserved
returns-clause-reserved c = found_while_reserved

pub returns-clause-stage : goal.returns-clause-stage
returns-clause-stage c = log_tells
