use Rattle.std.proofs.Common.{rules, ◌≡◌, None, ◌∙◌, sym}
use Rattle.hk_script.specs.Lines.{event_of}
use Rattle.hk_script.proofs.Choices.{no_some}
use Rattle.hk_script.proofs.Exact.{event_found, event_read}
use Rattle.hk_script.proofs.read.read_event.Goals as goal

pub returns-in-Ok-Some : goal.returns-in-Ok-Some
returns-in-Ok-Some c = event_found c.args.line.now c.in-Ok-Some.event (search rules)

pub returns-in-Ok-None : goal.returns-in-Ok-None
returns-in-Ok-None c =
    let none : event_of c.args.line.now ≡ None = search rules in
    λ event is. no_some event (sym none ∙ event_read c.args.line.now event is)
