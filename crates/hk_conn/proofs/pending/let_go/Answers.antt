use Rattle.std.proofs.Common.{rules}
use Rattle.hk_conn.proofs.Holding.{going_starts, going_on, going_done}
use Rattle.hk_conn.proofs.pending.let_go.Goals as goal

pub loop-pending-init : goal.loop-pending-init
loop-pending-init g c = going_starts g.D.Desk.will (g.D.Desk.asks c.args.desk.now) c.args.updates.now.items

pub loop-pending-preserved : goal.loop-pending-preserved
loop-pending-preserved g c = going_on g.D.Desk.will (g.D.Desk.asks c.args.desk.now) (g.D.Desk.asks c.loop-pending.desk) (g.D.Desk.asks c.let_one_go.new.desk) c.args.updates.now.items c.loop-pending.updates.items c.pop_front.new.self.items c.in-Some.pending c.loop-pending.invariant c.in-Some.ensures.items c.let_one_go.ensures

pub returns : goal.returns
returns g c = going_done g.D.Desk.will (g.D.Desk.asks c.args.desk.now) (g.D.Desk.asks c.loop-pending.desk) c.args.updates.now.items c.loop-pending.updates.items _ c.loop-pending.invariant (search rules) (search rules)
