use Rattle.std.proofs.Common.{rules, refl, sym, take}
use Rattle.hk_peer.proofs.Counting.{gives_read, gives_fault, came}
use Rattle.hk_peer.proofs.serve.read_piece.Goals as goal

pub returns-then-is_err-clause-pieces : goal.returns-then-is_err-clause-pieces
returns-then-is_err-clause-pieces g c = (refl, refl)

pub returns-in-Err-clause-pieces : goal.returns-in-Err-clause-pieces
returns-in-Err-clause-pieces g c = (c.in-Err.ensures.bytes, gives_fault _ (g.C.Source.given c.args.conn.now) (g.C.Source.given c.read.new.self) _ c.read.new.room c.in-Err.ensures.given)

pub returns-clause-pieces : goal.returns-clause-pieces
returns-clause-pieces g c =
    let ended = c.in-Ok.ensures.bytes.1 in
    record {
      piece = take c.in-Ok.count c.read.new.room;
      long = sym c.in-Ok.ensures.within.1;
      taken = c.in-Ok.ensures.bytes.0;
      grown = gives_read _ (g.C.Source.given c.args.conn.now) (g.C.Source.given c.read.new.self) c.in-Ok.count c.read.new.room c.in-Ok.ensures.given;
      ended = search (ended, rules);
      come = came c.args.cutter.now c.make_room.new.self c.filled.new.self c.read.new.room c.in-Ok.count c.make_room.ensures.same (search rules) c.filled.ensures;
    }
