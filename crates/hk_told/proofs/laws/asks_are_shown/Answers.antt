use Rattle.hk_told.proofs.Telling.{calls_begin_in_lists, asks_are_shown, looks_are_joined}
use Rattle.hk_told.proofs.laws.asks_are_shown.Goals as goal

pub returns-clause-begin : goal.returns-clause-begin
returns-clause-begin c = calls_begin_in_lists

pub returns-clause-look : goal.returns-clause-look
returns-clause-look c = asks_are_shown

pub returns-clause-looks : goal.returns-clause-looks
returns-clause-looks c = looks_are_joined
