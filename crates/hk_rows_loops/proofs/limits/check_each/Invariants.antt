use Rattle.hk_conn.specs.Exchange.{IsExchange}
use Rattle.hk_rows_loops.proofs.limits.check_each.Given as goal

-- it stands between two turns
abbrev pub invariant-loop-at : goal.invariant-loop-at
invariant-loop-at g l = IsExchange l.exchange
