use Rattle.std.proofs.Common.{rules, refl, ◌-◌, Ok, Err}
use Rattle.hk_conn.specs.Asking.{told}
use Rattle.hk_conn.proofs.Holding.{answers_pending, told_at_once, waits_now}
use Rattle.hk_conn.proofs.pending.begin.Goals as goal

pub returns-then-is_err : goal.returns-then-is_err
returns-then-is_err g c = answers_pending g.D.Desk.will c.ask.result (c.args.patience - 1) (g.D.Desk.asks c.args.desk.now) (g.D.Desk.asks c.ask.new.desk) c.args.updates.now.items c.reserve.new.self.items c.args.out.now.items c.ask.new.out.items _ c.reserve.ensures.items c.ask.ensures

pub returns-in-Ok-Waits : goal.returns-in-Ok-Waits
returns-in-Ok-Waits g c = waits_now g.D.Desk.will (c.args.patience - 1) (g.D.Desk.asks c.args.desk.now) (g.D.Desk.asks c.begin.new.self) c.args.updates.now.items c.reserve.new.self.items c.push_back_reserved.new.self.items c.args.out.now.items _ c.args.key c.args.op.now c.args.noreply _ tt c.reserve.ensures.items c.push_back_reserved.ensures.items (search rules) (search rules) refl (rw c.in-Ok-Waits.field-0-is at c.in-Ok-Waits.ensures.listed)

pub returns-in-Ok-Told : goal.returns-in-Ok-Told
returns-in-Ok-Told g c = told_at_once g.D.Desk.will c.put_told.result (c.args.patience - 1) (g.D.Desk.asks c.args.desk.now) (g.D.Desk.asks c.begin.new.self) (g.D.Desk.asks c.hear_on-heard.new.desk) c.args.updates.now.items c.reserve.new.self.items c.args.out.now.items c.put_told.new.out.items c.args.key c.args.op.now c.args.noreply (Ok c.in-Ok-Told.reply) (told c.hear_on-heard.result) c.reserve.ensures.items (rw c.in-Ok-Told.field-0-is at c.in-Ok-Told.ensures.listed) c.hear_on-heard.ensures c.put_told.ensures

pub returns-in-Err : goal.returns-in-Err
returns-in-Err g c = told_at_once g.D.Desk.will c.put_told-in-Err.result (c.args.patience - 1) (g.D.Desk.asks c.args.desk.now) (g.D.Desk.asks c.begin.new.self) (g.D.Desk.asks c.hear_on-heard-in-Err.new.desk) c.args.updates.now.items c.reserve.new.self.items c.args.out.now.items c.put_told-in-Err.new.out.items c.args.key c.args.op.now c.args.noreply (Err c.in-Err.memory) (told c.hear_on-heard-in-Err.result) c.reserve.ensures.items c.in-Err.ensures.listed c.hear_on-heard-in-Err.ensures c.put_told-in-Err.ensures
