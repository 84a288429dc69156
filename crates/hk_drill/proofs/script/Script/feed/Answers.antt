use Rattle.std.proofs.Common.{rules, arith, ◌≡◌, drop, refl}
use Rattle.hk_drill.proofs.Cutting.{none_of}
use Rattle.hk_drill.proofs.Progressing.{kept_all, ended_on, ended_at}
use Rattle.hk_drill.proofs.script.Script.feed.Goals as goal

pub returns-in_default-clause-after : goal.returns-in_default-clause-after
returns-in_default-clause-after c =
    let l = c.loop-end in
    let rest = c.split_at.result.1.now in
    let is_rest : rest ≡ drop l.at c.args.piece.now = search rules in
    kept_all _ c.args.piece.now rest l.at l.self.text.items l.self.line.items l.self.number l.self.state is_rest l.invariant.stands c.keep.result
    c.keep.new.self.text.items c.keep.new.self.line.items c.keep.new.self.number c.keep.new.self.state
    (none_of rest (λ j less e. c.in_default.ensures j (omega arith) less e))
    c.keep.ensures.same.0 c.keep.ensures.same.1 (search rules) c.keep.ensures.line c.keep.ensures.limit

pub returns-in-Some-2-clause-after : goal.returns-in-Some-2-clause-after
returns-in-Some-2-clause-after c =
    let l = c.loop-end in
    let rest = c.split_at.result.1.now in
    let first = c.in-Some.ensures in
    let is_rest : rest ≡ drop l.at c.args.piece.now = search rules in
    ended_at _ c.args.piece.now rest l.at l.self.text.items l.self.line.items l.self.number l.self.state is_rest l.invariant.stands c.in-Some.end first.0.high
    (λ j less e. first.0.before j (omega arith) less e) first.1 _ c.end_line.new.self.text.items refl c.in_ok-stop.field-0 c.end_line.new.self.number c.end_line.new.self.state
    c.in_ok-stop.ensures.number c.in_ok-stop.ensures.passed c.in-Some-2.stop c.in-Some-2.is

pub loop-end-preserved : goal.loop-end-preserved
loop-end-preserved c =
    let l = c.loop-end in
    let rest = c.split_at.result.1.now in
    let first = c.in-Some.ensures in
    let is_rest : rest ≡ drop l.at c.args.piece.now = search rules in
    record {
      within = grind (arith, first.0.high, c.split_at.ensures.back_len, l.invariant.within);
      counted = c.in_ok-stop.ensures.counted c.in_default-2.is;
      stands = ended_on _ c.args.piece.now rest l.at l.self.text.items l.self.line.items l.self.number l.self.state is_rest l.invariant.stands c.in-Some.end first.0.high
          (λ j less e. first.0.before j (omega arith) less e) first.1 _ c.end_line.new.self.text.items refl c.in_ok-stop.field-0 c.end_line.new.self.number c.end_line.new.self.state
          c.in_ok-stop.ensures.number c.in_ok-stop.ensures.passed c.end_line.new.self.line.items c.in_default-2.is c.in_ok-stop.ensures.line;
    }
