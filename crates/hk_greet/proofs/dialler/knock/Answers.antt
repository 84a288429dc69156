use Rattle.std.proofs.Common.{rules, ◌≡◌, Err, subst, sym}
use Rattle.hk_greet.specs.Greeting.{Knocks}
use Rattle.hk_greet.proofs.Greetings.{unsent, unanswered, answered}
use Rattle.hk_greet.proofs.dialler.knock.Goals as goal

pub returns-in_err-proof : goal.returns-in_err-proof
returns-in_err-proof g c =
    let same : c.from_residual.result ≡ Err c.in_err-proof.field-0.0 = search rules in
    subst (λ r. Knocks r c.args.secret.now c.args.hello c.args.conn.now c.send_hello.new.conn) (sym same) (unsent c.args.secret.now c.args.hello c.in-Ok.challenge c.args.conn.now c.hear.new.conn c.in-Ok.ensures.0 c.in-Ok.ensures.1 c.in_err-proof.field-0.0 c.send_hello.new.conn c.in_err-proof.ensures)

pub returns-in-Err-hear : goal.returns-in-Err-hear
returns-in-Err-hear g c = unanswered c.args.secret.now c.args.hello c.in-Ok.challenge c.args.conn.now c.hear.new.conn c.in-Ok.ensures.0 c.in-Ok.ensures.1 c.in_ok-proof.proof c.send_hello.new.conn c.hear-2.new.conn c.in_ok-proof.ensures c.in-Err-hear.fault c.in-Err-hear.ensures

pub returns : goal.returns
returns g c = answered c.args.secret.now c.args.hello c.in-Ok.challenge c.args.conn.now c.hear.new.conn c.in-Ok.ensures.0 c.in-Ok.ensures.1 c.in_ok-proof.proof c.send_hello.new.conn c.hear-2.new.conn c.in_ok-proof.ensures c.taken.result c.in-Ok-hear.answer c.welcome.result c.in-Ok-hear.ensures.0 c.in-Ok-hear.ensures.1 c.welcome.ensures c.taken.ensures
