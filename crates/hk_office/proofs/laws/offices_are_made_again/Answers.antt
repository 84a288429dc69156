use Rattle.hk_office.proofs.Logging.{log_tells}
use Rattle.hk_office.proofs.laws.offices_are_made_again.Goals as goal

pub returns : goal.returns
returns c = log_tells c.foundings_are_logged.ensures.stage
