use Rattle.hk_roll.proofs.Runs.{own, refused, changes, unbound}
use Rattle.hk_roll.proofs.laws.two_newcomers_at_once.Goals as goal

pub returns-clause-own : goal.returns-clause-own
returns-clause-own c = own

pub returns-clause-refused : goal.returns-clause-refused
returns-clause-refused c = refused

pub returns-clause-changes : goal.returns-clause-changes
returns-clause-changes c = changes

pub returns-clause-unbound : goal.returns-clause-unbound
returns-clause-unbound c = unbound
