use Rattle.hk_roll.proofs.Holder.{log_tells}
use Rattle.hk_roll.proofs.laws.rolls_are_made_again.Goals as goal

pub returns : goal.returns
returns c = log_tells
