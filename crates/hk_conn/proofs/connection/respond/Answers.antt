use Rattle.std.proofs.Common.{arith, rules, ◌-◌, ◌∙◌, refl, []}
use Rattle.hk_conn.specs.Serving.{place_of, behind_stop}
use Rattle.hk_conn.proofs.Connected.{responding_starts, responding_more, cut_in_pass, cut_in_write, stop_asks, rests_of}
use Rattle.hk_conn.proofs.Stepping.{idle_written}
use Rattle.hk_conn.proofs.connection.respond.Goals as goal

pub loop-stop-init : goal.loop-stop-init
loop-stop-init g c = record { reader = c.requires.reader; idle = c.requires.idle; full = c.requires.full; left = refl; given = refl; reads = refl; later = omega arith; responding = responding_starts _ _ _ _ }

pub returns-in-Err-clause-responds : goal.returns-in-Err-clause-responds
returns-in-Err-clause-responds g c = cut_in_pass _ (g.C.Sink.held c.args.conn.now) (g.C.Sink.held c.loop-stop.conn) (g.D.Desk.asks c.args.desk.now) (g.D.Desk.asks c.loop-stop.desk) (g.D.Desk.asks c.pass.new.desk) _ (place_of c.loop-stop.exchange.reader.pending c.loop-stop.exchange.reader.cutter) c.loop-stop.invariant.responding c.in-Err.ensures.passes

pub returns-in-Err-write_all-clause-responds : goal.returns-in-Err-write_all-clause-responds
returns-in-Err-write_all-clause-responds g c = cut_in_write (c.args.patience - 1) (g.C.Sink.held c.args.conn.now) (g.C.Sink.held c.loop-stop.conn) (g.C.Sink.held c.write_all.new.conn) (g.D.Desk.asks c.args.desk.now) (g.D.Desk.asks c.loop-stop.desk) (g.D.Desk.asks c.pass.new.desk) _ (place_of c.loop-stop.exchange.reader.pending c.loop-stop.exchange.reader.cutter) [] c.pass.new.exchange.out.items (behind_stop c.in-Ok.stop (c.args.patience - 1) (place_of c.pass.new.exchange.reader.pending c.pass.new.exchange.reader.cutter)) c.loop-stop.invariant.responding refl c.in-Ok.ensures.passes.0 (stop_asks c.in-Ok.stop (c.args.patience - 1) (place_of c.pass.new.exchange.reader.pending c.pass.new.exchange.reader.cutter)) (rw c.as_slice.ensures.value at c.write_all.ensures.front)

pub loop-stop-preserved : goal.loop-stop-preserved
loop-stop-preserved g c =
    let full = rw c.in-Full.is at c.in-Ok.ensures.passes in
    record {
      reader = rw c.all_written.ensures.reader full.1.0;
      idle = idle_written c.pass.new.exchange c.all_written.new.self c.in-Ok.stop (search rules) (search rules) (search rules) (search rules) (search rules) c.in-Ok.ensures.answered;
      full = search rules;
      left = c.write_all.ensures.left ∙ c.loop-stop.invariant.left;
      given = c.write_all.ensures.given ∙ c.loop-stop.invariant.given;
      reads = c.write_all.ensures.reads ∙ c.loop-stop.invariant.reads;
      later = omega (arith, c.write_all.ensures.later, c.loop-stop.invariant.later);
      responding = rw c.all_written.ensures.reader (responding_more (c.args.patience - 1) (g.C.Sink.held c.args.conn.now) (g.C.Sink.held c.loop-stop.conn) (g.C.Sink.held c.write_all.new.conn) (g.D.Desk.asks c.args.desk.now) (g.D.Desk.asks c.loop-stop.desk) (g.D.Desk.asks c.pass.new.desk) _ (place_of c.loop-stop.exchange.reader.pending c.loop-stop.exchange.reader.cutter) [] c.pass.new.exchange.out.items _ c.loop-stop.invariant.responding refl full.0 (rw c.as_slice.ensures.value at c.in-Ok-write_all.ensures.all));
    }

pub returns-in_default : goal.returns-in_default
returns-in_default g c = record {
  responds = rw c.all_written.ensures.reader (responding_more (c.args.patience - 1) (g.C.Sink.held c.args.conn.now) (g.C.Sink.held c.loop-stop.conn) (g.C.Sink.held c.write_all.new.conn) (g.D.Desk.asks c.args.desk.now) (g.D.Desk.asks c.loop-stop.desk) (g.D.Desk.asks c.pass.new.desk) _ (place_of c.loop-stop.exchange.reader.pending c.loop-stop.exchange.reader.cutter) [] c.pass.new.exchange.out.items (behind_stop c.in-Ok.stop (c.args.patience - 1) (place_of c.pass.new.exchange.reader.pending c.pass.new.exchange.reader.cutter)) c.loop-stop.invariant.responding refl c.in-Ok.ensures.passes.0 (rw c.as_slice.ensures.value at c.in-Ok-write_all.ensures.all), rests_of c.in-Ok.stop (place_of c.loop-stop.exchange.reader.pending c.loop-stop.exchange.reader.cutter) _ c.in_default.not-Full c.in-Ok.ensures.passes.1);
  left = c.write_all.ensures.left ∙ c.loop-stop.invariant.left;
  given = c.write_all.ensures.given ∙ c.loop-stop.invariant.given;
  reads = c.write_all.ensures.reads ∙ c.loop-stop.invariant.reads;
  later = omega (arith, c.write_all.ensures.later, c.loop-stop.invariant.later);
  failed = λ e. absurd (cc);
  idle = (idle_written c.pass.new.exchange c.all_written.new.self c.in-Ok.stop (search rules) (search rules) (search rules) (search rules) (search rules) c.in-Ok.ensures.answered, search rules);
}
