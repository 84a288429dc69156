use Rattle.std.proofs.Common.{rules, arith, ◌≡◌, ap}
use Rattle.hk_safety.specs.Run.{named}
use Rattle.hk_drill.specs.Transcript.{keys_text}
use Rattle.hk_drill.proofs.Telling.{key_put, key_front, front_same}
use Rattle.hk_drill.proofs.end.write_keys.Goals as goal

pub returns-in_err-write_key-clause-front : goal.returns-in_err-write_key-clause-front
returns-in_err-write_key-clause-front g c =
    let l = c.loop-key in
    let keys = c.as_slice-key-items.result.now in
    let same : keys ≡ named c.args.run.now = search rules in
    front_same (g.K.Sink.held c.args.sink.now) (g.K.Sink.held c.write_key.new.sink) (keys_text c.args.run.now keys) (keys_text c.args.run.now (named c.args.run.now)) (ap (keys_text c.args.run.now) same)
    (key_front (g.K.Sink.held c.args.sink.now) (g.K.Sink.held l.sink) c.args.run.now keys l.key-index c.key-item.result c.loop-key-test.true l.invariant.put c.key-item.is
    (g.K.Sink.held c.write_key.new.sink) c.write_key.ensures.front)

pub loop-key-preserved : goal.loop-key-preserved
loop-key-preserved g c =
    let l = c.loop-key in
    record {
      later = omega (arith, l.invariant.later, c.write_key.ensures.later);
      put = key_put (g.K.Sink.held c.args.sink.now) (g.K.Sink.held l.sink) c.args.run.now c.as_slice-key-items.result.now l.key-index c.key-item.result c.loop-key-test.true l.invariant.put
          c.key-item.is (g.K.Sink.held c.write_key.new.sink) c.in_ok-write_key.ensures.all;
    }
