use Rattle.std.proofs.Common.{rules, arith, ◌≡◌, ◌≤◌, ◌<◌, None, length, is_some, true, false, refl, ◌+◌}
use Rattle.hk_drill.proofs.Drilling.{come_front, cut_off, read_failed, unfed_front, unwritten_front, turn_on}
use Rattle.hk_drill.proofs.Telling.{appends_same, front_same}
use Rattle.hk_drill.proofs.Turns.{end_read, stop_come, none_of_no}
use Rattle.hk_drill.proofs.top.follow.Goals as goal

pub returns-in_default-clause-front : goal.returns-in_default-clause-front
returns-in_default-clause-front g c =
    come_front None _ _ _ _ _ _ _ _ _ (read_failed _ _ _ _ (g.S.Source.left c.read.new.self) _ _ (g.S.Source.given c.read.new.self) _ _ _ _ _ _ c.loop-turn.invariant.turning c.read.new.room
    c.in_default.field-0 c.in_default.ensures.bytes c.in_default.ensures.given)

pub returns-in_default-clause-cut_off : goal.returns-in_default-clause-cut_off
returns-in_default-clause-cut_off g c = λ e.
    let come = read_failed _ _ _ _ (g.S.Source.left c.read.new.self) _ _ (g.S.Source.given c.read.new.self) _ _ _ _ _ _ c.loop-turn.invariant.turning c.read.new.room
    c.in_default.field-0 c.in_default.ensures.bytes c.in_default.ensures.given in
    cut_off _ _ _ _ _ _ come.read come.told _ _ _ come.came come.put come.after

pub returns-then-count-eq0-clause-gone : goal.returns-then-count-eq0-clause-gone
returns-then-count-eq0-clause-gone g c =
    let zero_read : c.in-Ok.count ≡ 0 = search rules in
    let long : 0 < length c.read.new.room = search rules in
    end_read _ _ _ _ (g.S.Source.left c.read.new.self) _ _ (g.S.Source.given c.read.new.self) _ _ _ _ _ _ c.loop-turn.invariant.turning c.read.new.room
    c.in-Ok.count zero_read long c.in-Ok.ensures.bytes c.in-Ok.ensures.given

pub returns-then-count-eq0-clause-front : goal.returns-then-count-eq0-clause-front
returns-then-count-eq0-clause-front g c =
    let zero_read : c.in-Ok.count ≡ 0 = search rules in
    let long : 0 < length c.read.new.room = search rules in
    come_front None _ _ _ _ _ _ _ _ _ (end_read _ _ _ _ (g.S.Source.left c.read.new.self) _ _ (g.S.Source.given c.read.new.self) _ _ _ _ _ _ c.loop-turn.invariant.turning c.read.new.room
    c.in-Ok.count zero_read long c.in-Ok.ensures.bytes c.in-Ok.ensures.given).come

pub returns-in_err-stop-clause-front : goal.returns-in_err-stop-clause-front
returns-in_err-stop-clause-front g c =
    unfed_front _ _ _ _ (g.S.Source.left c.read.new.self) _ _ (g.S.Source.given c.read.new.self) _ _ _ _ _ _ c.loop-turn.invariant.turning c.read.new.room
    c.in-Ok.count c.in-Ok.ensures.bytes.0 c.in-Ok.ensures.given

pub returns-in_err-write_text-clause-front : goal.returns-in_err-write_text-clause-front
returns-in_err-write_text-clause-front g c =
    let s = c.feed.new.self in
    let same : c.as_slice.result.now ≡ s.text.items = search rules in
    unwritten_front _ _ _ _ (g.S.Source.left c.read.new.self) _ _ (g.S.Source.given c.read.new.self) _ _ _ _ _ _ c.loop-turn.invariant.turning c.read.new.room
    c.in-Ok.count c.in-Ok.ensures.bytes.0 c.in-Ok.ensures.given c.in_ok-stop.stop s.number s.line.items s.state s.text.items c.in_ok-stop.ensures.after
    (g.K.Sink.held c.write_text.new.sink) (front_same _ _ _ _ same c.write_text.ensures.front)

pub returns-then-is_some-clause-gone : goal.returns-then-is_some-clause-gone
returns-then-is_some-clause-gone g c =
    let s = c.feed.new.self in
    let same : c.as_slice.result.now ≡ s.text.items = search rules in
    let some : is_some c.in_ok-stop.stop ≡ true = search rules in
    stop_come _ _ _ _ (g.S.Source.left c.read.new.self) _ _ (g.S.Source.given c.read.new.self) _ _ _ _ _ _ c.loop-turn.invariant.turning c.read.new.room
    c.in-Ok.count c.in-Ok.ensures.bytes.0 c.in-Ok.ensures.given c.in_ok-stop.stop s.number s.line.items s.state s.text.items c.in_ok-stop.ensures.after
    (g.K.Sink.held c.write_text.new.sink) some (appends_same (g.K.Sink.held c.loop-turn.sink) (g.K.Sink.held c.write_text.new.sink) c.as_slice.result.now s.text.items same c.in_ok-write_text.ensures.all)

pub returns-then-is_some-clause-front : goal.returns-then-is_some-clause-front
returns-then-is_some-clause-front g c =
    let s = c.feed.new.self in
    let same : c.as_slice.result.now ≡ s.text.items = search rules in
    let some : is_some c.in_ok-stop.stop ≡ true = search rules in
    come_front c.in_ok-stop.stop _ _ _ _ _ _ _ _ _ (stop_come _ _ _ _ (g.S.Source.left c.read.new.self) _ _ (g.S.Source.given c.read.new.self) _ _ _ _ _ _ c.loop-turn.invariant.turning c.read.new.room
    c.in-Ok.count c.in-Ok.ensures.bytes.0 c.in-Ok.ensures.given c.in_ok-stop.stop s.number s.line.items s.state s.text.items c.in_ok-stop.ensures.after
    (g.K.Sink.held c.write_text.new.sink) some (appends_same (g.K.Sink.held c.loop-turn.sink) (g.K.Sink.held c.write_text.new.sink) c.as_slice.result.now s.text.items same c.in_ok-write_text.ensures.all)).come

pub loop-turn-preserved : goal.loop-turn-preserved
loop-turn-preserved g c =
    let s = c.feed.new.self in
    let same : c.as_slice.result.now ≡ s.text.items = search rules in
    let no_stop : is_some c.in_ok-stop.stop ≡ false = search rules in
    let none = none_of_no c.in_ok-stop.stop no_stop in
    let some_read : 0 < c.in-Ok.count = search rules in
    let within : c.in-Ok.count ≤ length c.read.new.room = search rules in
    record {
      room = search rules;
      reads = omega (arith, c.loop-turn.invariant.reads, c.read.ensures.cause.later);
      writes = omega (arith, c.loop-turn.invariant.writes, c.write_text.ensures.later);
      turning = turn_on _ _ _ _ (g.S.Source.left c.read.new.self) _ _ (g.S.Source.given c.read.new.self) _ _ _ _ _ _ c.loop-turn.invariant.turning c.read.new.room
          c.in-Ok.count c.in-Ok.ensures.bytes.0 c.in-Ok.ensures.given c.in_ok-stop.stop s.number s.line.items s.state s.text.items c.in_ok-stop.ensures.after
          (g.K.Sink.held c.write_text.new.sink) (c.loop-turn._turn + 1) c.clear.new.self.items none
          (appends_same (g.K.Sink.held c.loop-turn.sink) (g.K.Sink.held c.write_text.new.sink) c.as_slice.result.now s.text.items same c.in_ok-write_text.ensures.all)
          refl some_read within (c.in_ok-stop.ensures.counted none) (search rules);
    }
