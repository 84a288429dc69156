use Rattle.std.proofs.Common.{rules, arith, ◌≡◌, ◌+◌, ◌<◌, refl, sym, ap, subst}
use Rattle.hk_peer.specs.Cut.{Cutting, IsPart}
use Rattle.hk_peer.proofs.Waiting.{nothing_is_part}
use Rattle.hk_peer.proofs.Framing.{same_link}
use Rattle.hk_peer.proofs.Gathered.{serving_starts, serving_fed, serving_passed, serves_nothing, serves_spent, serves_end, serves_unread, serves_stopped}
use Rattle.hk_peer.proofs.serve.serve_peer.Goals as goal

pub returns-in_default-clause-served : goal.returns-in_default-clause-served
returns-in_default-clause-served g c = serves_nothing c.args.course (g.C.Source.left c.args.conn.now) (g.C.Source.given c.args.conn.now) c.args.outlet.now.known

pub loop-read-init : goal.loop-read-init
loop-read-init g c =
    let none = ap (λ (x : Cutting). x.unread) c.in-Ok.ensures in
    record {
      link = (refl, refl);
      part = subst IsPart (sym none) nothing_is_part;
      faults = omega arith;
      serving = serving_starts c.args.course (g.C.Source.left c.args.conn.now) (g.C.Source.given c.args.conn.now) c.args.outlet.now.known c.in-Ok.cutter.unread none;
    }

pub returns-in-Err-clause-served : goal.returns-in-Err-clause-served
returns-in-Err-clause-served g c =
    let few : c.loop-read._read < 4294967295 = search rules in
    serves_unread c.args.course c.in-Err.end (g.C.Source.left c.args.conn.now) (g.C.Source.left c.loop-read.conn) (g.C.Source.left c.read_piece.new.conn) (g.C.Source.given c.args.conn.now) (g.C.Source.given c.loop-read.conn) (g.C.Source.given c.read_piece.new.conn) c.args.outlet.now.known c.loop-read.outlet.known c.loop-read._read c.loop-read.cutter c.read_piece.new.cutter c.loop-read.invariant.serving c.loop-read.invariant.part c.in-Err.ensures.pieces few

pub returns-then-count-eq0-clause-served : goal.returns-then-count-eq0-clause-served
returns-then-count-eq0-clause-served g c =
    let few : c.loop-read._read < 4294967295 = search rules in
    serves_end c.args.course c.in-Ok-read_piece.count (g.C.Source.left c.args.conn.now) (g.C.Source.left c.loop-read.conn) (g.C.Source.left c.read_piece.new.conn) (g.C.Source.given c.args.conn.now) (g.C.Source.given c.loop-read.conn) (g.C.Source.given c.read_piece.new.conn) c.args.outlet.now.known c.loop-read.outlet.known c.loop-read._read c.loop-read.cutter c.read_piece.new.cutter c.loop-read.invariant.serving c.loop-read.invariant.part c.in-Ok-read_piece.ensures.pieces c.if-count-eq0.true few

pub returns-in-Err-pass-clause-served : goal.returns-in-Err-pass-clause-served
returns-in-Err-pass-clause-served g c =
    let few : c.loop-read._read < 4294967295 = search rules in
    serves_stopped c.args.course c.in-Err-pass.end (g.C.Source.left c.args.conn.now) (g.C.Source.left c.loop-read.conn) (g.C.Source.left c.read_piece.new.conn) (g.C.Source.given c.args.conn.now) (g.C.Source.given c.loop-read.conn) (g.C.Source.given c.read_piece.new.conn) c.args.outlet.now.known c.loop-read.outlet.known c.pass.new.outlet.known c.loop-read._read c.in-Ok-read_piece.count c.loop-read.cutter c.read_piece.new.cutter c.pass.new.cutter.unread c.loop-read.invariant.serving c.loop-read.invariant.part c.in-Ok-read_piece.ensures.pieces c.if-count-eq0.false (rw c.in-Err-pass.is at c.pass.ensures.passed) c.in-Err-pass.ensures.stop few

pub loop-read-preserved : goal.loop-read-preserved
loop-read-preserved g c =
    let fed = serving_fed c.args.course (g.C.Source.left c.args.conn.now) (g.C.Source.left c.loop-read.conn) (g.C.Source.left c.read_piece.new.conn) (g.C.Source.given c.args.conn.now) (g.C.Source.given c.loop-read.conn) (g.C.Source.given c.read_piece.new.conn) c.args.outlet.now.known c.loop-read.outlet.known c.loop-read._read c.in-Ok-read_piece.count c.loop-read.cutter c.read_piece.new.cutter c.loop-read.invariant.serving c.in-Ok-read_piece.ensures.pieces c.if-count-eq0.false in
    record {
      link = same_link c.pass.new.outlet c.loop-read.outlet c.args.outlet.now c.pass.ensures.link c.loop-read.invariant.link;
      part = c.in-Ok-pass.ensures.stop;
      faults = omega (arith, c.loop-read.invariant.faults, c.read_piece.ensures.later);
      serving = serving_passed c.args.course (g.C.Source.left c.args.conn.now) (g.C.Source.left c.read_piece.new.conn) (g.C.Source.given c.args.conn.now) (g.C.Source.given c.read_piece.new.conn) c.args.outlet.now.known c.loop-read.outlet.known c.pass.new.outlet.known (c.loop-read._read + 1) c.read_piece.new.cutter.unread c.pass.new.cutter.unread fed (rw c.in-Ok-pass.is at c.pass.ensures.passed);
    }

pub returns-clause-served : goal.returns-clause-served
returns-clause-served g c =
    let reads : c.from.result ≡ 4294967295 = search rules in
    let turns : c.loop-read._read ≡ 4294967295 = search rules in
    serves_spent c.args.course c.from.result (g.C.Source.left c.args.conn.now) (g.C.Source.left c.loop-read.conn) (g.C.Source.given c.args.conn.now) (g.C.Source.given c.loop-read.conn) c.args.outlet.now.known c.loop-read.outlet.known c.loop-read._read c.loop-read.cutter.unread c.loop-read.invariant.serving c.loop-read.invariant.part reads turns
