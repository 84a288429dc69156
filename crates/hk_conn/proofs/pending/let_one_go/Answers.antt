use Rattle.hk_conn.proofs.Holding.{one_goes}
use Rattle.hk_conn.proofs.pending.let_one_go.Goals as goal

pub returns : goal.returns
returns g c = one_goes g.D.Desk.will c.args.pending (g.D.Desk.asks c.args.desk.now) (g.D.Desk.asks c.finish.new.self) c.finish.result c.finish.ensures.listed c.finish.ensures.settled
