use Rattle.std.proofs.Common.{rules, ◌-◌, refl}
use Rattle.hk_conn.proofs.Stepping.{passing_starts, passing_on, passes_now, pass_unheard, pass_stopped}
use Rattle.hk_conn.proofs.connection.pass.Goals as goal

pub loop-memory-init : goal.loop-memory-init
loop-memory-init g c = passing_starts g.D.Desk.will (c.args.patience - 1) (g.D.Desk.asks c.args.desk.now) c.args.exchange.now c.requires.idle c.requires.full c.requires.reader

pub returns-in-Err : goal.returns-in-Err
returns-in-Err g c = record { passes = pass_stopped g.D.Desk.will (c.args.patience - 1) (g.D.Desk.asks c.args.desk.now) (g.D.Desk.asks c.loop-memory.desk) (g.D.Desk.asks c.take_step.new.desk) (g.D.Desk.asks c.let_go.new.desk) c.args.exchange.now c.loop-memory.exchange c.take_step.new.exchange c.take_step.new.exchange c.in-Err.memory c.let_go.new.updates.items c.loop-memory.invariant c.in-Err.ensures c.let_go.ensures; answered = tt }

pub returns-in-Err-hear_all : goal.returns-in-Err-hear_all
returns-in-Err-hear_all g c = record { passes = pass_unheard g.D.Desk.will (c.args.patience - 1) (g.D.Desk.asks c.args.desk.now) (g.D.Desk.asks c.loop-memory.desk) (g.D.Desk.asks c.take_step.new.desk) (g.D.Desk.asks c.hear_all.new.desk) c.args.exchange.now c.loop-memory.exchange c.take_step.new.exchange (record c.take_step.new.exchange { updates = c.hear_all.new.updates; out = c.hear_all.new.out }) c.in-Err-hear_all.memory c.loop-memory.invariant c.in-Ok.ensures c.in-Err-hear_all.ensures; answered = tt }

pub returns-then-is_none : goal.returns-then-is_none
returns-then-is_none g c = let n = passes_now g.D.Desk.will (c.args.patience - 1) (g.D.Desk.asks c.args.desk.now) (g.D.Desk.asks c.loop-memory.desk) (g.D.Desk.asks c.take_step.new.desk) (g.D.Desk.asks c.hear_all.new.desk) c.args.exchange.now c.loop-memory.exchange c.take_step.new.exchange (record c.take_step.new.exchange { updates = c.hear_all.new.updates; out = c.hear_all.new.out }) tt c.loop-memory.invariant c.in-Ok.ensures c.in-Ok-hear_all.ensures refl refl refl refl refl (search rules) in record { passes = n.0; answered = n.1 }

pub loop-memory-preserved : goal.loop-memory-preserved
loop-memory-preserved g c = (passing_on g.D.Desk.will (c.args.patience - 1) (g.D.Desk.asks c.args.desk.now) (g.D.Desk.asks c.loop-memory.desk) (g.D.Desk.asks c.take_step.new.desk) (g.D.Desk.asks c.hear_all.new.desk) c.args.exchange.now c.loop-memory.exchange c.take_step.new.exchange (record c.take_step.new.exchange { updates = c.hear_all.new.updates; out = c.hear_all.new.out }) tt c.loop-memory.invariant c.in-Ok.ensures c.in-Ok-hear_all.ensures refl refl refl refl refl (search rules)).0
