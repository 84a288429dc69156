use Rattle.std.proofs.Common.{◌∙◌}
use Rattle.hk_init.proofs.Answering.{status_answers, status_goes_on}
use Rattle.hk_init.proofs.command.first_status.Goals as goal

pub returns-in-Ok : goal.returns-in-Ok
returns-in-Ok g c =
    let kept = c.loop-place.invariant in
    status_answers c.args.count kept.0 c.loop-place.place c.loop-place.first _ _ _ c.in-Ok.text (kept.1, kept.2, kept.3, kept.4) c.loop-place-test.true c.in-Ok.ensures

pub loop-place-preserved : goal.loop-place-preserved
loop-place-preserved g c =
    let kept = c.loop-place.invariant in
    let more = status_goes_on kept.0 c.loop-place.place c.loop-place.first _ _ _ c.in-Err.fault (kept.1, kept.2, kept.3, kept.4) c.in-Err.ensures in
    (more.0, more.1, more.2, more.3, c.earlier-first.ensures ∙ more.4)
