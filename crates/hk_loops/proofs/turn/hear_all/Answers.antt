use Rattle.hk_conn.proofs.Sound.{heard_sound}
use Rattle.hk_loops.proofs.Turning.{answers_none, answers_more, turn_heard}
use Rattle.hk_loops.proofs.turn.hear_all.Goals as goal

pub loop-init : goal.loop-init
loop-init g c = (c.requires, λ m. answers_none g.D.Desk.will m (g.D.Desk.asks c.args.desk.now) c.args.exchange.now)

pub loop-preserved : goal.loop-preserved
loop-preserved g c = (heard_sound _ _ g.D.Desk.will (g.D.Desk.asks c.loop.desk) (g.D.Desk.asks c.hear_next.new.desk) c.loop.invariant.0 c.in-Ok.ensures, λ m. answers_more g.D.Desk.will m _ _ _ _ _ _ (c.loop.invariant.1 m) (turn_heard g.D.Desk.will m _ _ _ _ c.in-Ok.ensures))
