use Rattle.std.proofs.Common.{◌≤◌}
use Rattle.hk_link.specs.Ends.{IsSameLink}
use Rattle.hk_peer.specs.Cut.{IsPart}
use Rattle.hk_peer.specs.Turns.{IsServing}
use Rattle.hk_peer.proofs.serve.serve_peer.Given as goal

abbrev pub invariant-loop-read : goal.invariant-loop-read
invariant-loop-read g l = record {
  link : IsSameLink l.outlet l.fn.outlet;
  part : IsPart l.cutter.unread;
  faults : g.C.Source.faults l.fn.conn ≤ g.C.Source.faults l.conn;
  serving : IsServing l.course (g.C.Source.left l.fn.conn) (g.C.Source.left l.conn) (g.C.Source.given l.fn.conn) (g.C.Source.given l.conn) l.fn.outlet.known l.outlet.known l._read l.cutter.unread;
}
