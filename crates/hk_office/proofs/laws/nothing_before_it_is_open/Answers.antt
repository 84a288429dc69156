use Rattle.hk_office.proofs.Closed.{closed}
use Rattle.hk_office.proofs.laws.nothing_before_it_is_open.Goals as goal

pub returns : goal.returns
returns c = closed
