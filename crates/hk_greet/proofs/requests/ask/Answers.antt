use Rattle.std.proofs.Common.{rules, ◌≡◌, subst, [], List, ℕ}
use Rattle.hk_inside.specs.Messages.{inquiry_frame, response_frame}
use Rattle.hk_greet.specs.Standing.{Passes}
use Rattle.hk_greet.proofs.Passing.{then_heard}
use Rattle.hk_greet.proofs.requests.ask.Goals as goal

pub returns-in-Ok-hear : goal.returns-in-Ok-hear
returns-in-Ok-hear g c =
    let frame : c.deref.result.now ≡ inquiry_frame c.args.inquiry.now = search rules in
    let said = subst (λ (text : List ℕ). Passes c.args.conn.now c.say.new.self [] text) frame c.in-Ok-say.ensures in
    (c.in-Ok-hear.ensures.0, then_heard c.args.conn.now c.say.new.self c.hear.new.conn [] (response_frame c.in-Ok-hear.response) (inquiry_frame c.args.inquiry.now) said c.in-Ok-hear.ensures.1)
