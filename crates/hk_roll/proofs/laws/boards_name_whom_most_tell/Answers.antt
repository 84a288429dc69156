use Rattle.hk_roll.proofs.MostTold.{names_whom_most_tell}
use Rattle.hk_roll.proofs.laws.boards_name_whom_most_tell.Goals as goal

pub returns : goal.returns
returns c = names_whom_most_tell
