use Rattle.std.proofs.Common.{refl}
use Rattle.hk_world.proofs.worked.worked_worlds.Goals as goal

pub returns-clause-alone : goal.returns-clause-alone
returns-clause-alone c = refl

pub returns-clause-others : goal.returns-clause-others
returns-clause-others c = refl

pub returns-clause-higher : goal.returns-clause-higher
returns-clause-higher c = refl

pub returns-clause-increments : goal.returns-clause-increments
returns-clause-increments c = refl

pub returns-clause-replay : goal.returns-clause-replay
returns-clause-replay c = refl

pub returns-clause-lease : goal.returns-clause-lease
returns-clause-lease c = refl

pub returns-clause-clocks : goal.returns-clause-clocks
returns-clause-clocks c = refl

pub returns-clause-joiner : goal.returns-clause-joiner
returns-clause-joiner c = refl

pub returns-clause-managers : goal.returns-clause-managers
returns-clause-managers c = refl
