use Rattle.std.proofs.Common.{◌-◌, refl}
use Rattle.hk_conn.proofs.Holding.{answers_pending, of_key}
use Rattle.hk_conn.proofs.pending.update.Goals as goal

pub returns-in_default : goal.returns-in_default
returns-in_default g c = answers_pending g.D.Desk.will c.ask.result (c.args.patience - 1) (g.D.Desk.asks c.args.desk.now) (g.D.Desk.asks c.ask.new.desk) c.args.updates.now.items c.args.updates.now.items c.args.out.now.items c.ask.new.out.items _ refl c.ask.ensures

pub returns : goal.returns
returns g c = of_key g.D.Desk.will c.begin.result (c.args.patience - 1) (g.D.Desk.asks c.args.desk.now) (g.D.Desk.asks c.begin.new.desk) c.args.updates.now.items c.begin.new.updates.items c.args.out.now.items c.begin.new.out.items c.in-Ok.kept c.args.key.now c.args.op.now c.args.noreply c.in-Ok.ensures c.begin.ensures
