use Rattle.std.proofs.Common.{refl}
use Rattle.hk_conn.proofs.Stepping.{hears_joined, hears_unput}
use Rattle.hk_conn.proofs.pending.hear_next.Goals as goal

pub returns-in-Ok : goal.returns-in-Ok
returns-in-Ok g c = hears_joined g.D.Desk.will (g.D.Desk.asks c.args.desk.now) (g.D.Desk.asks c.finish_one.new.desk) c.args.exchange.now (record c.args.exchange.now { updates = c.pop_front.new.self; told = c.finish_one.new.out }) c.in-Some.pending c.in-Some.ensures.items c.in-Ok.ensures.goes c.join.new.exchange c.join.result c.in-Ok.ensures.put refl refl refl refl refl c.join.ensures

pub returns-in-Err : goal.returns-in-Err
returns-in-Err g c = hears_unput g.D.Desk.will (g.D.Desk.asks c.args.desk.now) (g.D.Desk.asks c.finish_one.new.desk) c.args.exchange.now (record c.args.exchange.now { updates = c.pop_front.new.self; told = c.finish_one.new.out }) c.in-Some.pending c.in-Some.ensures.items c.in-Err.ensures.goes c.in-Err.memory refl refl refl refl
