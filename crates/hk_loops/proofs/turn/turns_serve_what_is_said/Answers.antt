use Rattle.hk_loops.proofs.Turning.{turns_serve}
use Rattle.hk_loops.proofs.turn.turns_serve_what_is_said.Goals as goal

pub returns : goal.returns
returns g c = turns_serve g.D.Desk.will
