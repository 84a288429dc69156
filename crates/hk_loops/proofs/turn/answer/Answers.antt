use Rattle.std.proofs.Common.{◌-◌}
use Rattle.hk_loops.proofs.Turning.{answers_more, turn_stepped}
use Rattle.hk_loops.proofs.turn.answer.Goals as goal

pub returns-in-Ok-hear_all-clause-turn : goal.returns-in-Ok-hear_all-clause-turn
returns-in-Ok-hear_all-clause-turn g c = answers_more g.D.Desk.will (c.args.patience - 1) _ _ _ _ _ _ (turn_stepped g.D.Desk.will (c.args.patience - 1) _ _ _ _ c.in-Ok.ensures) (c.in-Ok-hear_all.ensures.turn (c.args.patience - 1))
