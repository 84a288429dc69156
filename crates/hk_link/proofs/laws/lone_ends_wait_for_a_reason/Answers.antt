use Rattle.hk_link.proofs.Alone.{full_for_one, empty_for_one}
use Rattle.hk_link.proofs.laws.lone_ends_wait_for_a_reason.Goals as goal

pub returns-clause-full : goal.returns-clause-full
returns-clause-full c = full_for_one

pub returns-clause-empty : goal.returns-clause-empty
returns-clause-empty c = empty_for_one
