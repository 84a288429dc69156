use Rattle.std.proofs.Common.{◌-◌, length}
use Rattle.hk_conn.proofs.Stepping.{Passing}
use Rattle.hk_conn.proofs.connection.pass.Given as goal

abbrev pub invariant-loop-memory : goal.invariant-loop-memory
invariant-loop-memory g l = Passing g.D.Desk.will (l.patience - 1) (g.D.Desk.asks l.fn.desk) (g.D.Desk.asks l.desk) l.fn.exchange l.exchange

abbrev pub decreases-loop-memory : goal.decreases-loop-memory
decreases-loop-memory g l = length l.exchange.reader.cutter.unread
