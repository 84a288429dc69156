use Rattle.hk_told.proofs.Telling.{at_once_is_shown, after_looks_is_shown, unknown_is_shown, shown_suits, unknown_suits}
use Rattle.hk_told.proofs.laws.told_is_shown.Goals as goal

pub returns-clause-now : goal.returns-clause-now
returns-clause-now c = at_once_is_shown

pub returns-clause-told : goal.returns-clause-told
returns-clause-told c = after_looks_is_shown

pub returns-clause-unknown : goal.returns-clause-unknown
returns-clause-unknown c = unknown_is_shown

pub returns-clause-suits : goal.returns-clause-suits
returns-clause-suits c = shown_suits

pub returns-clause-update : goal.returns-clause-update
returns-clause-update c = unknown_suits
