use Rattle.hk_conn.proofs.Holding.{one_finishes}
use Rattle.hk_conn.proofs.pending.finish_one.Goals as goal

pub returns : goal.returns
returns g c = one_finishes g.D.Desk.will c.args.pending (g.D.Desk.asks c.args.desk.now) (g.D.Desk.asks c.finish-heard.new.self) c.finish-heard.result c.put_pending.result c.args.out.now.items c.put_pending.new.out.items c.finish-heard.ensures.listed c.finish-heard.ensures.settled c.put_pending.ensures
