use Rattle.std.proofs.Common.{rules, ◌≡◌, false}
use Rattle.hk_drill.specs.Transcript.{is_skipped}
use Rattle.hk_drill.proofs.Following.{begun_bad, begun_header}
use Rattle.hk_drill.proofs.script.begin.Goals as goal

pub returns-in_default : goal.returns-in_default
returns-in_default c =
    let read : is_skipped c.args.line.now ≡ false = search rules in
    begun_bad c.args.line.now c.in_default.field-0 read c.in_default.ensures.exact c.in_default.ensures.told

pub returns : goal.returns
returns c =
    let read : is_skipped c.args.line.now ≡ false = search rules in
    begun_header c.args.line.now c.in-Ok.header c.in_ok-new.field-0 read c.in-Ok.ensures.exact c.in_ok-new.ensures
