-- The keys before this one were written.
use Rattle.std.proofs.Common.{◌≤◌, drop}
use Rattle.hk_drill.proofs.Telling.{KeysPut}
use Rattle.hk_drill.proofs.end.write_keys.Given as goal

abbrev pub invariant-loop-key : goal.invariant-loop-key
invariant-loop-key g l = record {
  later : g.K.Sink.faults l.initial.sink ≤ g.K.Sink.faults l.sink;
  put : KeysPut (g.K.Sink.held l.initial.sink) (g.K.Sink.held l.sink) l.run l.key-items (drop l.key-index l.key-items);
}
