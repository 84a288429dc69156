use Rattle.std.proofs.Common.{◌≡◌, ◌∙◌, sym, None}
use Rattle.hk_drill.specs.Transcript.{limit_at}
use Rattle.hk_drill.proofs.Following.{limit_passed, state_passes, state_counts, begun_passes, begun_counts}
use Rattle.hk_drill.proofs.script.pass_line.Goals as goal

pub returns-in-Some-clause-passed : goal.returns-in-Some-clause-passed
returns-in-Some-clause-passed c =
    limit_passed c.args.number c.args.line.now c.args.state.now c.args.state.now c.in-Some.stop c.args.text.now.items (sym c.in-Some.is ∙ c.limit_at.ensures)

pub returns-in-Some-state-clause-passed : goal.returns-in-Some-state-clause-passed
returns-in-Some-state-clause-passed c =
    let within : limit_at c.args.number c.args.line.now ≡ None = sym c.limit_at.ensures ∙ c.in_default.is in
    state_passes c.take_line.result c.args.number c.args.line.now c.args.state.now _ c.take_line.new.self c.args.text.now.items c.take_line.new.text.items c.in-Some-state.is within
    c.take_line.ensures

pub returns-in-Some-state-clause-counted : goal.returns-in-Some-state-clause-counted
returns-in-Some-state-clause-counted c =
    let within : limit_at c.args.number c.args.line.now ≡ None = sym c.limit_at.ensures ∙ c.in_default.is in
    state_counts c.take_line.result c.args.number c.args.line.now c.args.state.now _ c.take_line.new.self c.args.text.now.items c.take_line.new.text.items c.in-Some-state.is within
    c.requires c.take_line.ensures

pub returns-clause-passed : goal.returns-clause-passed
returns-clause-passed c =
    let within : limit_at c.args.number c.args.line.now ≡ None = sym c.limit_at.ensures ∙ c.in_default.is in
    begun_passes c.begin.result c.args.number c.args.line.now c.args.state.now c.begin.new.state c.args.text.now.items c.in_default-state.is within c.begin.ensures

pub returns-clause-counted : goal.returns-clause-counted
returns-clause-counted c =
    let within : limit_at c.args.number c.args.line.now ≡ None = sym c.limit_at.ensures ∙ c.in_default.is in
    begun_counts c.begin.result c.args.number c.args.line.now c.begin.new.state within c.begin.ensures
