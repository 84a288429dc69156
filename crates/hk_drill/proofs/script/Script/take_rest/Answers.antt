use Rattle.std.proofs.Common.{rules, ◌≡◌, ◌≢◌, length}
use Rattle.hk_drill.proofs.Progressing.{rest_all}
use Rattle.hk_drill.proofs.script.Script.take_rest.Goals as goal

pub returns : goal.returns
returns c =
    let some : length c.args.self.now.line.items ≢ 0 = search rules in
    let same : c.as_slice.result.now ≡ c.args.self.now.line.items = search rules in
    rest_all c.take_line.result c.args.self.now.number c.take_line.new.self.number c.as_slice.result.now c.args.self.now.line.items c.args.self.now.state c.take_line.new.self.state _ _ same some
    c.requires.part c.take_line.ensures.passed c.take_line.ensures.number
