use Rattle.hk_log.proofs.Cuts.{cut_logs_are_fronts, cuts_are_no_damage}
use Rattle.hk_log.proofs.cut_logs_are_fronts.Goals as goal

pub returns-clause-fronts : goal.returns-clause-fronts
returns-clause-fronts c = cut_logs_are_fronts

pub returns-clause-no_damage : goal.returns-clause-no_damage
returns-clause-no_damage c = cuts_are_no_damage
