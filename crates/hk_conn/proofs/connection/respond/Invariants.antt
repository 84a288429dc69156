use Rattle.std.proofs.Common.{◌≡◌, ◌≤◌, ◌-◌, length}
use Rattle.hk_conn.specs.declared.said.Stop.TheVariants as stop
use Rattle.hk_conn.specs.Exchange.{IsIdle}
use Rattle.hk_conn.specs.Turns.{IsReader}
use Rattle.hk_conn.specs.Serving.{place_of, replies_from}
use Rattle.hk_conn.specs.Responding.{Responding}
use Rattle.hk_conn.proofs.connection.respond.Given as goal

abbrev pub invariant-loop-stop : goal.invariant-loop-stop
invariant-loop-stop g l = record {
  reader : IsReader l.exchange.reader.cutter l.exchange.reader.pending;
  idle : IsIdle l.exchange;
  full : l.exchange.stop ≡ stop.Full;
  left : g.C.Source.left l.conn ≡ g.C.Source.left l.fn.conn;
  given : g.C.Source.given l.conn ≡ g.C.Source.given l.fn.conn;
  reads : g.C.Source.faults l.conn ≡ g.C.Source.faults l.fn.conn;
  later : g.C.Sink.faults l.fn.conn ≤ g.C.Sink.faults l.conn;
  responding : Responding (l.patience - 1) (g.C.Sink.held l.fn.conn) (g.C.Sink.held l.conn) (g.D.Desk.asks l.fn.desk) (g.D.Desk.asks l.desk) (place_of l.fn.exchange.reader.pending l.fn.exchange.reader.cutter) (replies_from (l.patience - 1) (place_of l.exchange.reader.pending l.exchange.reader.cutter));
}

abbrev pub decreases-loop-stop : goal.decreases-loop-stop
decreases-loop-stop g l = length l.exchange.reader.cutter.unread
