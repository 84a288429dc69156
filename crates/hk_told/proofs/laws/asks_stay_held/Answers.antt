use Rattle.hk_told.proofs.Apart.{delivers_in_turn}
use Rattle.hk_told.proofs.Calling.{steps_keep_asks, calls_keep_asks}
use Rattle.hk_told.proofs.Holding.{drops_keep_asks, none_are_held}
use Rattle.hk_told.proofs.laws.asks_stay_held.Goals as goal

pub returns-clause-steps : goal.returns-clause-steps
returns-clause-steps c = steps_keep_asks

pub returns-clause-calls : goal.returns-clause-calls
returns-clause-calls c = calls_keep_asks

pub returns-clause-drops : goal.returns-clause-drops
returns-clause-drops c = drops_keep_asks

pub returns-clause-none : goal.returns-clause-none
returns-clause-none c = none_are_held

pub returns-clause-turn : goal.returns-clause-turn
returns-clause-turn c = delivers_in_turn
