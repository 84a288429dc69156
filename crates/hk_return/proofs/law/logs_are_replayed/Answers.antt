use Rattle.hk_return.proofs.Replaying.{logs_are_replayed}
use Rattle.hk_return.proofs.Noting.{untils_are_noted_anew, noted_by_asks}
use Rattle.hk_return.proofs.Covering.{grants_are_covered}
use Rattle.hk_return.proofs.law.logs_are_replayed.Goals as goal

pub returns-clause-replay : goal.returns-clause-replay
returns-clause-replay c = logs_are_replayed

pub returns-clause-returned : goal.returns-clause-returned
returns-clause-returned c = untils_are_noted_anew

pub returns-clause-covered : goal.returns-clause-covered
returns-clause-covered c = grants_are_covered

pub returns-clause-asks : goal.returns-clause-asks
returns-clause-asks c = noted_by_asks
