use Rattle.std.proofs.Common.{◌-◌}
use Rattle.hk_loops.proofs.Turning.{exchanges_more, turn_whole}
use Rattle.hk_loops.proofs.turn.take_turn.Goals as goal

pub returns-in-Nothing-clause-turn : goal.returns-in-Nothing-clause-turn
returns-in-Nothing-clause-turn g c = exchanges_more c.in_ok-write_some.ensures.turn c.in_ok-count.ensures.turn g.D.Desk.will (c.args.patience - 1) (g.D.Desk.asks c.args.desk.now)

pub returns-in-End-clause-turn : goal.returns-in-End-clause-turn
returns-in-End-clause-turn g c = exchanges_more c.in_ok-write_some.ensures.turn c.in_ok-count.ensures.turn g.D.Desk.will (c.args.patience - 1) (g.D.Desk.asks c.args.desk.now)

pub returns-then-not-branch-2-clause-turn : goal.returns-then-not-branch-2-clause-turn
returns-then-not-branch-2-clause-turn g c = turn_whole (exchanges_more c.in_ok-write_some.ensures.turn c.in_ok-count.ensures.turn) c.in_ok-answer.ensures.turn c.in_ok-write_some-2.ensures.turn

pub returns-clause-turn : goal.returns-clause-turn
returns-clause-turn g c = turn_whole (exchanges_more c.in_ok-write_some.ensures.turn c.in_ok-count.ensures.turn) c.in_ok-answer.ensures.turn c.in_ok-write_some-2.ensures.turn
