use Rattle.std.proofs.Common.{◌≡◌, ◌≤◌, ◌-◌, []}
use Rattle.hk_conn.specs.declared.said.Stop.TheVariants as stop
use Rattle.hk_conn.specs.Exchange.{IsIdle}
use Rattle.hk_conn.specs.Turns.{IsReader, ahead}
use Rattle.hk_conn.specs.Serving.{place_of, replies_from}
use Rattle.hk_conn.specs.Moments.{IsServing}
use Rattle.hk_conn.proofs.connection.serve_connection.Given as goal

abbrev pub invariant-loop-read : goal.invariant-loop-read
invariant-loop-read g l = record {
  reader : IsReader l.exchange.reader.cutter l.exchange.reader.pending;
  idle : IsIdle l.exchange;
  need : l.exchange.stop ≡ stop.Need;
  rests : ahead l.exchange.reader.pending l.exchange.reader.cutter [] ≡ [];
  reads : g.C.Source.faults l.fn.conn ≤ g.C.Source.faults l.conn;
  writes : g.C.Sink.faults l.fn.conn ≤ g.C.Sink.faults l.conn;
  serving : IsServing (l.patience - 1) (g.C.Source.left l.fn.conn) (g.C.Source.left l.conn) (g.C.Source.given l.fn.conn) (g.C.Source.given l.conn) (g.C.Sink.held l.fn.conn) (g.C.Sink.held l.conn) (g.D.Desk.asks l.fn.desk) (g.D.Desk.asks l.desk) l._read (replies_from (l.patience - 1) (place_of l.exchange.reader.pending l.exchange.reader.cutter));
}
