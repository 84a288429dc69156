use Rattle.std.proofs.Common.{◌≡◌, ◌≤◌, ◌-◌, length, take}
use Rattle.std.specs.Io.KnownBytes.{Appends}
use Rattle.hk_conn.proofs.connection.write_all.Given as goal

abbrev pub invariant-loop-at : goal.invariant-loop-at
invariant-loop-at g l = (l.at ≤ length l.text) × (g.C.Sink.faults l.initial.conn ≤ g.C.Sink.faults l.conn) × Appends (g.C.Sink.held l.initial.conn) (g.C.Sink.held l.conn) (take l.at l.text) × (g.C.Source.left l.conn ≡ g.C.Source.left l.initial.conn) × (g.C.Source.given l.conn ≡ g.C.Source.given l.initial.conn) × (g.C.Source.faults l.conn ≡ g.C.Source.faults l.initial.conn)

abbrev pub decreases-loop-at : goal.decreases-loop-at
decreases-loop-at g l = length l.text - l.at
