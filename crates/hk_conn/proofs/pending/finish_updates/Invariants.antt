use Rattle.std.specs.VecDeque.{deque_len}
use Rattle.hk_conn.proofs.Holding.{Finishing}
use Rattle.hk_conn.proofs.pending.finish_updates.Given as goal

abbrev pub invariant-loop-pending : goal.invariant-loop-pending
invariant-loop-pending g l = Finishing g.D.Desk.will (g.D.Desk.asks l.fn.desk) (g.D.Desk.asks l.desk) l.fn.updates.items l.updates.items l.fn.out.items l.out.items

abbrev pub decreases-loop-pending : goal.decreases-loop-pending
decreases-loop-pending g l = deque_len l.updates
