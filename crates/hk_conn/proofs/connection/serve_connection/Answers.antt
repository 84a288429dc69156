use Rattle.std.proofs.Common.{rules, arith, ◌≡◌, ◌-◌, ◌+◌, ◌∙◌, refl, []}
use Rattle.std.specs.Prelude.{None}
use Rattle.hk_lines.specs.declared.due.Due.TheVariants as due
use Rattle.hk_conn.specs.declared.ends.ConnEnd.TheVariants as ends
use Rattle.hk_conn.specs.declared.said.Said.TheVariants.{LongLine, Left}
use Rattle.hk_conn.specs.Serving.{place_of, behind_stop}
use Rattle.hk_conn.proofs.Connected.{serving_starts, serving_fed, serving_responded, serves_last, serves_idle, serves_front, serves_unread, serves_end, serves_unanswered, nothing_at_first, rests_need}
use Rattle.hk_conn.proofs.Counting.{read_now}
use Rattle.hk_conn.proofs.Stepping.{stands_need}
use Rattle.hk_conn.proofs.connection.serve_connection.Goals as goal

pub returns-in_default-clause-served : goal.returns-in_default-clause-served
returns-in_default-clause-served g c = serves_front c.args.patience ends.Memory _ _ _ _ _ _ _ _ 0 (place_of None (record { unread = []; dropping = 0; limit = 65536; due = due.Line; given = []; room = [] })) (serving_starts _ (g.C.Source.left c.args.conn.now) (g.C.Source.given c.args.conn.now) (g.C.Sink.held c.args.conn.now) (g.D.Desk.asks c.args.desk.now) _ refl) refl (omega arith) (λ out w. w)

pub loop-read-init : goal.loop-read-init
loop-read-init g c = record {
  reader = (stands_need c.in-Ok.exchange.stop c.in-Ok.exchange.held (place_of c.in-Ok.exchange.reader.pending c.in-Ok.exchange.reader.cutter) c.in-Ok.ensures.idle.1 c.in-Ok.ensures.idle.0.none_held c.in-Ok.ensures.exchange.stands).0;
  idle = c.in-Ok.ensures.idle.0;
  need = c.in-Ok.ensures.idle.1;
  rests = rw (c.in-Ok.ensures.empty.1, c.in-Ok.ensures.empty.0) nothing_at_first;
  reads = omega arith;
  writes = omega arith;
  serving = rw c.in-Ok.ensures.empty.1 (serving_starts _ (g.C.Source.left c.args.conn.now) (g.C.Source.given c.args.conn.now) (g.C.Sink.held c.args.conn.now) (g.D.Desk.asks c.args.desk.now) c.in-Ok.exchange.reader.cutter c.in-Ok.ensures.empty.0);
}

pub returns-in-Err-clause-served : goal.returns-in-Err-clause-served
returns-in-Err-clause-served g c = serves_unread c.args.patience c.in-Err.end (g.C.Source.left c.args.conn.now) (g.C.Source.left c.loop-read.conn) (g.C.Source.left c.read.new.conn) (g.C.Source.given c.args.conn.now) (g.C.Source.given c.loop-read.conn) (g.C.Source.given c.read.new.conn) (g.C.Sink.held c.args.conn.now) (g.C.Sink.held c.loop-read.conn) (g.C.Sink.held c.read.new.conn) (g.D.Desk.asks c.args.desk.now) (g.D.Desk.asks c.loop-read.desk) c.loop-read._read c.loop-read.exchange.reader.pending c.loop-read.exchange.reader.cutter c.read.new.self.reader.cutter c.loop-read.invariant.serving c.loop-read.invariant.rests c.in-Err.ensures.pieces c.in-Err.ensures.held (search rules)

pub returns-then-count-eq0-clause-served : goal.returns-then-count-eq0-clause-served
returns-then-count-eq0-clause-served g c = serves_end c.args.patience c.in-Ok-read.count (g.C.Source.left c.args.conn.now) (g.C.Source.left c.loop-read.conn) (g.C.Source.left c.read.new.conn) (g.C.Source.given c.args.conn.now) (g.C.Source.given c.loop-read.conn) (g.C.Source.given c.read.new.conn) (g.C.Sink.held c.args.conn.now) (g.C.Sink.held c.loop-read.conn) (g.C.Sink.held c.read.new.conn) (g.D.Desk.asks c.args.desk.now) (g.D.Desk.asks c.loop-read.desk) c.loop-read._read c.loop-read.exchange.reader.pending c.loop-read.exchange.reader.cutter c.read.new.self.reader.cutter c.loop-read.invariant.serving c.loop-read.invariant.rests c.in-Ok-read.ensures.pieces c.if-count-eq0.true c.in-Ok-read.ensures.held (search rules)

pub returns-in-Err-respond-clause-served : goal.returns-in-Err-respond-clause-served
returns-in-Err-respond-clause-served g c = rw (c.respond.ensures.left, c.respond.ensures.given) (serves_unanswered c.args.patience c.in-Err-respond.end (g.C.Source.left c.args.conn.now) (g.C.Source.left c.read.new.conn) (g.C.Source.given c.args.conn.now) (g.C.Source.given c.read.new.conn) (g.C.Sink.held c.args.conn.now) (g.C.Sink.held c.read.new.conn) (g.C.Sink.held c.respond.new.conn) (g.D.Desk.asks c.args.desk.now) (g.D.Desk.asks c.loop-read.desk) (g.D.Desk.asks c.respond.new.desk) (c.loop-read._read + 1) (place_of c.read.new.self.reader.pending c.read.new.self.reader.cutter) (place_of c.respond.new.exchange.reader.pending c.respond.new.exchange.reader.cutter) (serving_fed (c.args.patience - 1) (g.C.Source.left c.args.conn.now) (g.C.Source.left c.loop-read.conn) (g.C.Source.left c.read.new.conn) (g.C.Source.given c.args.conn.now) (g.C.Source.given c.loop-read.conn) (g.C.Source.given c.read.new.conn) (g.C.Sink.held c.args.conn.now) (g.C.Sink.held c.loop-read.conn) (g.C.Sink.held c.read.new.conn) (g.D.Desk.asks c.args.desk.now) (g.D.Desk.asks c.loop-read.desk) c.loop-read._read c.in-Ok-read.count c.loop-read.exchange.reader.pending c.read.new.self.reader.pending c.loop-read.exchange.reader.cutter c.read.new.self.reader.cutter c.loop-read.invariant.serving c.in-Ok-read.ensures.pieces c.if-count-eq0.false c.in-Ok-read.ensures.held c.in-Ok-read.ensures.pending) c.in-Err-respond.ensures.responds (search rules))

pub returns-in-Quit-clause-served : goal.returns-in-Quit-clause-served
returns-in-Quit-clause-served g c = rw (c.respond.ensures.left, c.respond.ensures.given) (serves_last c.args.patience ends.Quit Left (g.C.Source.left c.args.conn.now) (g.C.Source.left c.read.new.conn) (g.C.Source.given c.args.conn.now) (g.C.Source.given c.read.new.conn) (g.C.Sink.held c.args.conn.now) (g.C.Sink.held c.respond.new.conn) (g.D.Desk.asks c.args.desk.now) (g.D.Desk.asks c.respond.new.desk) (c.loop-read._read + 1) (rw c.in-Quit.is at (serving_responded (c.args.patience - 1) (g.C.Source.left c.args.conn.now) (g.C.Source.left c.read.new.conn) (g.C.Source.given c.args.conn.now) (g.C.Source.given c.read.new.conn) (g.C.Sink.held c.args.conn.now) (g.C.Sink.held c.read.new.conn) (g.C.Sink.held c.respond.new.conn) (g.D.Desk.asks c.args.desk.now) (g.D.Desk.asks c.loop-read.desk) (g.D.Desk.asks c.respond.new.desk) (c.loop-read._read + 1) (place_of c.read.new.self.reader.pending c.read.new.self.reader.cutter) (behind_stop c.in-Ok-respond.stop (c.args.patience - 1) (place_of c.respond.new.exchange.reader.pending c.respond.new.exchange.reader.cutter)) (serving_fed (c.args.patience - 1) (g.C.Source.left c.args.conn.now) (g.C.Source.left c.loop-read.conn) (g.C.Source.left c.read.new.conn) (g.C.Source.given c.args.conn.now) (g.C.Source.given c.loop-read.conn) (g.C.Source.given c.read.new.conn) (g.C.Sink.held c.args.conn.now) (g.C.Sink.held c.loop-read.conn) (g.C.Sink.held c.read.new.conn) (g.D.Desk.asks c.args.desk.now) (g.D.Desk.asks c.loop-read.desk) c.loop-read._read c.in-Ok-read.count c.loop-read.exchange.reader.pending c.read.new.self.reader.pending c.loop-read.exchange.reader.cutter c.read.new.self.reader.cutter c.loop-read.invariant.serving c.in-Ok-read.ensures.pieces c.if-count-eq0.false c.in-Ok-read.ensures.held c.in-Ok-read.ensures.pending) c.in-Ok-respond.ensures.responds.0)) refl (search rules) (λ read out. refl))

pub returns-in-TooLong-clause-served : goal.returns-in-TooLong-clause-served
returns-in-TooLong-clause-served g c = rw (c.respond.ensures.left, c.respond.ensures.given) (serves_last c.args.patience ends.TooLong LongLine (g.C.Source.left c.args.conn.now) (g.C.Source.left c.read.new.conn) (g.C.Source.given c.args.conn.now) (g.C.Source.given c.read.new.conn) (g.C.Sink.held c.args.conn.now) (g.C.Sink.held c.respond.new.conn) (g.D.Desk.asks c.args.desk.now) (g.D.Desk.asks c.respond.new.desk) (c.loop-read._read + 1) (rw c.in-TooLong.is at (serving_responded (c.args.patience - 1) (g.C.Source.left c.args.conn.now) (g.C.Source.left c.read.new.conn) (g.C.Source.given c.args.conn.now) (g.C.Source.given c.read.new.conn) (g.C.Sink.held c.args.conn.now) (g.C.Sink.held c.read.new.conn) (g.C.Sink.held c.respond.new.conn) (g.D.Desk.asks c.args.desk.now) (g.D.Desk.asks c.loop-read.desk) (g.D.Desk.asks c.respond.new.desk) (c.loop-read._read + 1) (place_of c.read.new.self.reader.pending c.read.new.self.reader.cutter) (behind_stop c.in-Ok-respond.stop (c.args.patience - 1) (place_of c.respond.new.exchange.reader.pending c.respond.new.exchange.reader.cutter)) (serving_fed (c.args.patience - 1) (g.C.Source.left c.args.conn.now) (g.C.Source.left c.loop-read.conn) (g.C.Source.left c.read.new.conn) (g.C.Source.given c.args.conn.now) (g.C.Source.given c.loop-read.conn) (g.C.Source.given c.read.new.conn) (g.C.Sink.held c.args.conn.now) (g.C.Sink.held c.loop-read.conn) (g.C.Sink.held c.read.new.conn) (g.D.Desk.asks c.args.desk.now) (g.D.Desk.asks c.loop-read.desk) c.loop-read._read c.in-Ok-read.count c.loop-read.exchange.reader.pending c.read.new.self.reader.pending c.loop-read.exchange.reader.cutter c.read.new.self.reader.cutter c.loop-read.invariant.serving c.in-Ok-read.ensures.pieces c.if-count-eq0.false c.in-Ok-read.ensures.held c.in-Ok-read.ensures.pending) c.in-Ok-respond.ensures.responds.0)) refl (search rules) (λ read out. refl))

pub loop-read-preserved : goal.loop-read-preserved
loop-read-preserved g c =
    let need = rests_need c.in-Ok-respond.stop (place_of c.respond.new.exchange.reader.pending c.respond.new.exchange.reader.cutter) c.in_default-stop.not-Quit c.in_default-stop.not-TooLong c.in-Ok-respond.ensures.responds.1 in
    let rests = rw need at c.in-Ok-respond.ensures.responds.1 in
    record {
      reader = rests.0;
      idle = c.in-Ok-respond.ensures.idle.0;
      need = c.in-Ok-respond.ensures.idle.1 ∙ need;
      rests = rests.1;
      reads = rw c.respond.ensures.reads (omega (arith, c.read.ensures.later, c.loop-read.invariant.reads));
      writes = omega (arith, c.respond.ensures.later, c.read.ensures.writes, c.loop-read.invariant.writes);
      serving = rw (c.respond.ensures.left, c.respond.ensures.given) (rw need at (serving_responded (c.args.patience - 1) (g.C.Source.left c.args.conn.now) (g.C.Source.left c.read.new.conn) (g.C.Source.given c.args.conn.now) (g.C.Source.given c.read.new.conn) (g.C.Sink.held c.args.conn.now) (g.C.Sink.held c.read.new.conn) (g.C.Sink.held c.respond.new.conn) (g.D.Desk.asks c.args.desk.now) (g.D.Desk.asks c.loop-read.desk) (g.D.Desk.asks c.respond.new.desk) (c.loop-read._read + 1) (place_of c.read.new.self.reader.pending c.read.new.self.reader.cutter) (behind_stop c.in-Ok-respond.stop (c.args.patience - 1) (place_of c.respond.new.exchange.reader.pending c.respond.new.exchange.reader.cutter)) (serving_fed (c.args.patience - 1) (g.C.Source.left c.args.conn.now) (g.C.Source.left c.loop-read.conn) (g.C.Source.left c.read.new.conn) (g.C.Source.given c.args.conn.now) (g.C.Source.given c.loop-read.conn) (g.C.Source.given c.read.new.conn) (g.C.Sink.held c.args.conn.now) (g.C.Sink.held c.loop-read.conn) (g.C.Sink.held c.read.new.conn) (g.D.Desk.asks c.args.desk.now) (g.D.Desk.asks c.loop-read.desk) c.loop-read._read c.in-Ok-read.count c.loop-read.exchange.reader.pending c.read.new.self.reader.pending c.loop-read.exchange.reader.cutter c.read.new.self.reader.cutter c.loop-read.invariant.serving c.in-Ok-read.ensures.pieces c.if-count-eq0.false c.in-Ok-read.ensures.held c.in-Ok-read.ensures.pending) c.in-Ok-respond.ensures.responds.0));
    }

pub returns-clause-served : goal.returns-clause-served
returns-clause-served g c =
    let reads : c.from.result ≡ 4294967295 = search rules in
    rw reads (serves_idle c.args.patience (ends.Spent 4294967295) _ _ _ _ _ _ _ _ _ c.loop-read._read (place_of c.loop-read.exchange.reader.pending c.loop-read.exchange.reader.cutter) c.loop-read.invariant.serving (read_now (ends.Spent 4294967295) _ _ _ c.loop-read._read c.loop-read.invariant.serving.reads refl (refl, search rules)) c.loop-read.invariant.rests (λ out w. w))
