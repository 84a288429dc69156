use Rattle.hk_journal.proofs.Joined.{changed_are_reported, changed_are_all}
use Rattle.hk_journal.proofs.laws.changed_rows_are_reported.Goals as goal

pub returns-clause-keys : goal.returns-clause-keys
returns-clause-keys c = changed_are_reported

pub returns-clause-all : goal.returns-clause-all
returns-clause-all c = changed_are_all
