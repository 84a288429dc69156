use Rattle.std.proofs.Common.{◌∙◌, ap}
use Rattle.hk_conn.proofs.Holding.{finished_before}
use Rattle.hk_conn.proofs.pending.finish_all.Goals as goal

pub returns-in-Ok : goal.returns-in-Ok
returns-in-Ok g c = finished_before g.D.Desk.will c.put.result (g.D.Desk.asks c.args.desk.now) (g.D.Desk.asks c.finish_updates.new.desk) c.args.updates.now.items c.finish_updates.new.updates.items c.args.out.now.items c.replace-behind.result.items c.replace-behind.new.dest.items c.finish_updates.new.out.items c.put.new.out.items
    c.in-Ok.ensures.0 c.in-Ok.ensures.1 c.in-Ok.ensures.2 (ap (λ v. v.items) c.replace-behind.ensures.after ∙ c.new.ensures.items) c.in-Ok.ensures.3 (ap (λ v. v.items) c.replace-behind.ensures.value) c.put.ensures

pub returns-in-Err : goal.returns-in-Err
returns-in-Err g c = (c.in-Err.ensures.0, c.in-Err.ensures.1, c.in-Err.ensures.2, tt)
