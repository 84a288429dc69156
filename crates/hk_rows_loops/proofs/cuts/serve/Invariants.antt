use Rattle.hk_conn.specs.Exchange.{IsExchange}
use Rattle.hk_rows_loops.proofs.cuts.serve.Given as goal

-- it stands between two turns
abbrev pub invariant-loop-turn : goal.invariant-loop-turn
invariant-loop-turn g l = IsExchange l.exchange
