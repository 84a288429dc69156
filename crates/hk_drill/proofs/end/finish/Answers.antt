use Rattle.std.proofs.Common.{rules, ◌≡◌, [], None}
use Rattle.hk_drill.specs.Transcript.{written_of}
use Rattle.hk_drill.specs.Progress.{further, ending}
use Rattle.hk_drill.proofs.Telling.{appends_same, front_same, rest_text}
use Rattle.hk_drill.proofs.Finishing.{rest_front, more_front}
use Rattle.hk_drill.proofs.end.finish.Goals as goal

pub returns-in_err-write_text-clause-front : goal.returns-in_err-write_text-clause-front
returns-in_err-write_text-clause-front g c =
    let s = c.args.script.now in
    let t = c.take_rest.new.self in
    let same : c.as_slice.result.now ≡ t.text.items = search rules in
    rest_front c.in_ok-stop.stop (g.K.Sink.held c.args.sink.now) (g.K.Sink.held c.write_text.new.sink) s.number t.number s.line.items s.state t.state s.text.items t.text.items c.requires.written c.in_ok-stop.ensures
    (front_same (g.K.Sink.held c.args.sink.now) (g.K.Sink.held c.write_text.new.sink) c.as_slice.result.now t.text.items same c.write_text.ensures.front)

pub returns-in-None-clause-front : goal.returns-in-None-clause-front
returns-in-None-clause-front g c =
    let s = c.args.script.now in
    let t = c.take_rest.new.self in
    let same : c.as_slice.result.now ≡ t.text.items = search rules in
    let none : c.in_ok-stop.stop ≡ None = c.in-None.is in
    more_front (g.K.Sink.held c.args.sink.now) (g.K.Sink.held c.write_text.new.sink) (g.K.Sink.held c.write_last.new.sink) (ending s.number s.line.items s.state).text t.text.items (written_of (further t.number t.state [])).text
    (rest_text c.in_ok-stop.stop s.number t.number s.line.items s.state t.state s.text.items t.text.items none c.requires.written c.in_ok-stop.ensures)
    (appends_same (g.K.Sink.held c.args.sink.now) (g.K.Sink.held c.write_text.new.sink) c.as_slice.result.now t.text.items same c.in_ok-write_text.ensures.all)
    c.write_last.ensures.front
