use Rattle.hk_keeper.proofs.Wishes.{begin_behind}
use Rattle.hk_keeper.proofs.laws.views_begin_behind_the_wait.Goals as goal

pub returns : goal.returns
returns c = begin_behind
