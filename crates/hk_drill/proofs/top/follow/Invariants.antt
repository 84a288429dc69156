-- Between two reads all that was told is written.
use Rattle.std.proofs.Common.{◌≡◌, ◌≤◌, length}
use Rattle.hk_drill.proofs.Drilling.{Turning}
use Rattle.hk_drill.proofs.top.follow.Given as goal

abbrev pub invariant-loop-turn : goal.invariant-loop-turn
invariant-loop-turn g l = record {
  room : length l.room ≡ 4096;
  reads : g.S.Source.faults l.initial.source ≤ g.S.Source.faults l.source;
  writes : g.K.Sink.faults l.initial.sink ≤ g.K.Sink.faults l.sink;
  turning : Turning l._turn (g.S.Source.left l.initial.source) (g.S.Source.left l.source) (g.S.Source.given l.initial.source) (g.S.Source.given l.source)
      (g.K.Sink.held l.initial.sink) (g.K.Sink.held l.sink) l.script.number l.script.line.items l.script.state l.script.text.items;
}
