use Rattle.hk_reports.proofs.Known.{last_ask_counts, other_shards_stay}
use Rattle.hk_reports.proofs.Lists.{other_numbers_stay}
use Rattle.hk_reports.proofs.laws.the_last_ask_counts.Goals as goal

pub returns-clause-last : goal.returns-clause-last
returns-clause-last c = last_ask_counts

pub returns-clause-shards : goal.returns-clause-shards
returns-clause-shards c = other_shards_stay

pub returns-clause-numbers : goal.returns-clause-numbers
returns-clause-numbers c = other_numbers_stay
