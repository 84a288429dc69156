use Rattle.std.proofs.Common.{ℕ}
use Rattle.hk_conn.specs.Exchange.{IsExchange}
use Rattle.hk_loops.specs.Turns.{Answers}
use Rattle.hk_loops.proofs.turn.hear_all.Given as goal

abbrev pub invariant-loop : goal.invariant-loop
invariant-loop g l = IsExchange l.exchange × ((m : ℕ) → Answers g.D.Desk.will m (g.D.Desk.asks l.fn.desk) (g.D.Desk.asks l.desk) l.fn.exchange l.exchange)
