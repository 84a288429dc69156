use Rattle.hk_return.proofs.Beginning.{guarded, guarded_letters}
use Rattle.hk_return.proofs.law.returned_managers_let_views_end.Goals as goal

pub returns-clause-installed : goal.returns-clause-installed
returns-clause-installed c = guarded

pub returns-clause-letters : goal.returns-clause-letters
returns-clause-letters c = guarded_letters
