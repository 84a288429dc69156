use Rattle.hk_boards.proofs.Majorities.{one_is_heard}
use Rattle.hk_boards.proofs.laws.processes_agree_on_holders.Goals as goal

pub returns : goal.returns
returns c = one_is_heard c.boards_name_whom_most_tell.ensures c.a_number_has_one_holder.ensures.told
