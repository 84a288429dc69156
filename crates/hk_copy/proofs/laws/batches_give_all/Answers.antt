use Rattle.hk_copy.proofs.Lawful.{is_whole, takes_first, goes_on_behind}
use Rattle.hk_copy.proofs.laws.batches_give_all.Goals as goal

pub returns-clause-whole : goal.returns-clause-whole
returns-clause-whole c = is_whole

pub returns-clause-first : goal.returns-clause-first
returns-clause-first c = takes_first

pub returns-clause-behind : goal.returns-clause-behind
returns-clause-behind c = goes_on_behind
