use Rattle.std.proofs.Common.{◌-◌, ◌∙◌, refl, sym}
use Rattle.hk_conn.proofs.Stepping.{behind_then, behind_parts}
use Rattle.hk_conn.proofs.step.step_behind.Goals as goal

pub returns-in-Ok-None : goal.returns-in-Ok-None
returns-in-Ok-None g c = behind_then g.D.Desk.will c.step.result (c.args.patience - 1) (g.D.Desk.asks c.args.desk.now) (g.D.Desk.asks c.reply.new.desk) (g.D.Desk.asks c.step.new.desk) c.args.exchange.now (record c.args.exchange.now { held = c.take.new.self; updates = c.reply.new.updates; out = c.reply.new.out }) c.step.new.exchange c.in-Some.held (sym c.take.ensures.value ∙ c.in-Some.is) c.requires.exchange.stands (rw c.in-Ok-None.field-0-is at c.in-Ok-None.ensures.replies) c.reply.ensures.waits refl refl c.take.ensures.after refl refl c.requires.unwritten c.step.ensures

pub returns-in-Err : goal.returns-in-Err
returns-in-Err g c = behind_parts g.D.Desk.will c.in-Err.memory (c.args.patience - 1) (g.D.Desk.asks c.args.desk.now) (g.D.Desk.asks c.reply.new.desk) c.args.exchange.now c.reply.new.updates.items c.reply.new.out.items c.in-Some.held (sym c.take.ensures.value ∙ c.in-Some.is) c.in-Err.ensures.replies
