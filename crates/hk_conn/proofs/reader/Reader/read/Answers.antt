use Rattle.std.proofs.Common.{rules, refl, sym, take}
use Rattle.hk_conn.proofs.Counting.{gives_read, gives_fault, came}
use Rattle.hk_conn.proofs.reader.Reader.read.Goals as goal

pub returns-then-is_err-clause-pieces : goal.returns-then-is_err-clause-pieces
returns-then-is_err-clause-pieces g c = (refl, refl)

pub returns-in-Err-clause-pieces : goal.returns-in-Err-clause-pieces
returns-in-Err-clause-pieces g c = (c.in-Err.ensures.bytes, gives_fault _ (g.C.Source.given c.args.conn.now) (g.C.Source.given c.read_some.new.conn) _ c.read_some.new.room c.in-Err.ensures.given)

pub returns-clause-pieces : goal.returns-clause-pieces
returns-clause-pieces g c =
    let ended = c.in-Ok.ensures.bytes.1 in
    record {
      piece = take c.in-Ok.count c.read_some.new.room;
      long = sym c.in-Ok.ensures.bound.1;
      taken = c.in-Ok.ensures.bytes.0;
      grown = gives_read _ (g.C.Source.given c.args.conn.now) (g.C.Source.given c.read_some.new.conn) c.in-Ok.count c.read_some.new.room c.in-Ok.ensures.given;
      ended = search (ended, rules);
      come = came c.args.self.now.cutter c.make_room.new.self c.filled.new.self c.read_some.new.room c.in-Ok.count c.make_room.ensures.same (search rules) c.filled.ensures;
    }
