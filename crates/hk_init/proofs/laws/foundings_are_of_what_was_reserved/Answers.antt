use Rattle.hk_init.proofs.Reserving.{reserved, opened}
use Rattle.hk_init.proofs.laws.foundings_are_of_what_was_reserved.Goals as goal

pub returns-clause-reserved : goal.returns-clause-reserved
returns-clause-reserved c = reserved

pub returns-clause-opened : goal.returns-clause-opened
returns-clause-opened c = opened
