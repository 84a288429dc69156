use Rattle.hk_loops.proofs.Turning.{are_one_turn}
use Rattle.hk_loops.proofs.turn.turns_are_as_one.Goals as goal

pub returns : goal.returns
returns g c = are_one_turn g.D.Desk.will
