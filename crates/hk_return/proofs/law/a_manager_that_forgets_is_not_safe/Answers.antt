use Rattle.hk_return.proofs.Working.{missed_with_none, missed_with_latest}
use Rattle.hk_return.proofs.law.a_manager_that_forgets_is_not_safe.Goals as goal

pub returns-clause-none : goal.returns-clause-none
returns-clause-none c = missed_with_none

pub returns-clause-latest : goal.returns-clause-latest
returns-clause-latest c = missed_with_latest
