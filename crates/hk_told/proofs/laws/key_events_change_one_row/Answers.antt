use Rattle.hk_told.proofs.OneKey.{key_events_change_one_row}
use Rattle.hk_told.proofs.Staying.{steps_keep_numbers}
use Rattle.hk_told.proofs.laws.key_events_change_one_row.Goals as goal

pub returns-clause-one : goal.returns-clause-one
returns-clause-one c = key_events_change_one_row

pub returns-clause-numbers : goal.returns-clause-numbers
returns-clause-numbers c = steps_keep_numbers
