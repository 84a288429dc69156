use Rattle.std.specs.VecDeque.{deque_len}
use Rattle.hk_conn.proofs.Holding.{Going}
use Rattle.hk_conn.proofs.pending.let_go.Given as goal

abbrev pub invariant-loop-pending : goal.invariant-loop-pending
invariant-loop-pending g l = Going g.D.Desk.will (g.D.Desk.asks l.fn.desk) (g.D.Desk.asks l.desk) l.fn.updates.items l.updates.items

abbrev pub decreases-loop-pending : goal.decreases-loop-pending
decreases-loop-pending g l = deque_len l.updates
