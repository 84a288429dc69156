use Rattle.hk_boards.proofs.Majorities.{held_by_most}
use Rattle.hk_boards.proofs.laws.holders_are_told_by_most.Goals as goal

pub returns : goal.returns
returns c = held_by_most c.boards_name_whom_most_tell.ensures
