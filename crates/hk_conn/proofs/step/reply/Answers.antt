use Rattle.std.proofs.Common.{◌-◌}
use Rattle.hk_conn.proofs.Holding.{answered_waits, replies_on, replies_stop}
use Rattle.hk_conn.proofs.step.reply.Goals as goal

pub returns-in-Ok : goal.returns-in-Ok
returns-in-Ok g c = record {
  replies = replies_on g.D.Desk.will (c.args.patience - 1) (g.D.Desk.asks c.args.desk.now) (g.D.Desk.asks c.answer.new.desk) c.args.updates.now.items c.answer.new.updates.items c.args.out.now.items c.answer.new.out.items c.args.said tt c.stop_at.result c.in-Ok.ensures c.stop_at.ensures;
  waits = answered_waits g.D.Desk.will c.answer.result (c.args.patience - 1) (g.D.Desk.asks c.args.desk.now) (g.D.Desk.asks c.answer.new.desk) c.args.updates.now.items c.answer.new.updates.items c.args.out.now.items c.answer.new.out.items c.args.said c.answer.ensures;
}

pub returns-clause-replies : goal.returns-clause-replies
returns-clause-replies g c = replies_stop g.D.Desk.will (c.args.patience - 1) (g.D.Desk.asks c.args.desk.now) (g.D.Desk.asks c.answer.new.desk) c.args.updates.now.items c.answer.new.updates.items c.args.out.now.items c.args.said c.in-Err.ensures
