use Rattle.std.proofs.Common.{◌-◌, length}
use Rattle.hk_conn.proofs.Stepping.{Midway}
use Rattle.hk_conn.proofs.step.step.Given as goal

abbrev pub invariant-loop-exchange : goal.invariant-loop-exchange
invariant-loop-exchange g l = Midway g.D.Desk.will (l.patience - 1) (g.D.Desk.asks l.fn.desk) (g.D.Desk.asks l.desk) l.fn.exchange l.exchange

abbrev pub decreases-loop-exchange : goal.decreases-loop-exchange
decreases-loop-exchange g l = length l.exchange.reader.cutter.unread
