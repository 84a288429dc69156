use Rattle.hk_keeper.proofs.Wishes.{move_together}
use Rattle.hk_keeper.proofs.laws.numbers_move_together.Goals as goal

pub returns : goal.returns
returns c = move_together
