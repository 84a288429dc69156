use Rattle.std.proofs.Common.{rules, refl, ◌≡◌, false}
use Rattle.hk_drill.specs.Transcript.{is_skipped}
use Rattle.hk_drill.proofs.DrillStates.{line_taken, line_is_bad}
use Rattle.hk_drill.proofs.drill_state.DrillState.take_line.Goals as goal

pub returns-in-Ok : goal.returns-in-Ok
returns-in-Ok c =
    let read : is_skipped c.args.line.now ≡ false = search rules in
    line_taken c.make.result c.args.line.now c.args.self.now _ _ _ c.in-Ok.event read c.in-Ok.ensures c.make.ensures

pub returns-in-Err-Bad : goal.returns-in-Err-Bad
returns-in-Err-Bad c =
    let read : is_skipped c.args.line.now ≡ false = search rules in
    (line_is_bad c.args.line.now c.args.self.now read (rw c.in-Err-Bad.field-0-is at c.in-Err-Bad.ensures), refl)
