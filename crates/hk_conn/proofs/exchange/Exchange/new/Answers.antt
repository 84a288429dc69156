use Rattle.std.proofs.Common.{arith}
use Rattle.hk_conn.proofs.Connected.{nothing_at_first}
use Rattle.hk_conn.proofs.exchange.Exchange.new.Goals as goal

pub returns-clause-exchange : goal.returns-clause-exchange
returns-clause-exchange g c = record {
  stands = (c.in_ok-reader.ensures.reader, rw (c.in_ok-reader.ensures.empty.1, c.in_ok-reader.ensures.empty.0) nothing_at_first);
  none_told = λ n. c.new-3.ensures.items;
  within = omega arith;
  alone = λ lt. c.new-2.ensures.items;
}
