use Rattle.std.proofs.Common.{rules}
use Rattle.hk_conn.proofs.Holding.{finishing_starts, finishing_on, finishing_done, finishing_fails}
use Rattle.hk_conn.proofs.pending.finish_updates.Goals as goal

pub loop-pending-init : goal.loop-pending-init
loop-pending-init g c = finishing_starts g.D.Desk.will (g.D.Desk.asks c.args.desk.now) c.args.updates.now.items c.args.out.now.items

pub loop-pending-preserved : goal.loop-pending-preserved
loop-pending-preserved g c = finishing_on g.D.Desk.will (g.D.Desk.asks c.args.desk.now) (g.D.Desk.asks c.loop-pending.desk) (g.D.Desk.asks c.finish_one.new.desk) c.args.updates.now.items c.loop-pending.updates.items c.pop_front.new.self.items c.in-Some.pending c.args.out.now.items c.loop-pending.out.items c.finish_one.new.out.items c.loop-pending.invariant c.in-Some.ensures.items c.in-Ok.ensures.goes c.in-Ok.ensures.put

pub returns-in-Err : goal.returns-in-Err
returns-in-Err g c =
    let w = finishing_fails g.D.Desk.will (g.D.Desk.asks c.args.desk.now) (g.D.Desk.asks c.loop-pending.desk) (g.D.Desk.asks c.finish_one.new.desk) (g.D.Desk.asks c.let_go.new.desk) c.args.updates.now.items c.loop-pending.updates.items c.pop_front.new.self.items c.let_go.new.updates.items c.in-Some.pending c.args.out.now.items c.loop-pending.out.items c.loop-pending.invariant c.in-Some.ensures.items c.in-Err.ensures.goes c.let_go.ensures in
    (w.0, w.1, w.2, tt)

pub returns : goal.returns
returns g c = finishing_done g.D.Desk.will (g.D.Desk.asks c.args.desk.now) (g.D.Desk.asks c.loop-pending.desk) c.args.updates.now.items c.loop-pending.updates.items _ c.args.out.now.items c.loop-pending.out.items _ c.loop-pending.invariant (search rules) (search rules)
