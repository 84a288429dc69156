use Rattle.hk_keeper.proofs.Wishes.{last_ready}
use Rattle.hk_keeper.proofs.laws.the_last_ready_stays.Goals as goal

pub returns : goal.returns
returns c = last_ready
