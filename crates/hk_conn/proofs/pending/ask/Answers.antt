use Rattle.std.proofs.Common.{◌-◌}
use Rattle.hk_conn.specs.Asking.{told}
use Rattle.hk_conn.proofs.Answered.{update_answers}
use Rattle.hk_conn.proofs.pending.ask.Goals as goal

pub returns : goal.returns
returns g c = update_answers c.put_told.result (c.args.patience - 1) (g.D.Desk.asks c.args.desk.now) (g.D.Desk.asks c.hear-heard.new.desk) c.args.out.now.items c.put_told.new.out.items c.args.key.now c.args.op.now c.args.noreply (told c.hear-heard.result) c.hear-heard.ensures c.put_told.ensures
