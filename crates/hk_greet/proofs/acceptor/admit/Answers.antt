use Rattle.std.proofs.Common.{rules, ◌≡◌, Err, subst, sym}
use Rattle.hk_greet.specs.Greeting.{Admits}
use Rattle.hk_greet.proofs.Greetings.{refused, admitted}
use Rattle.hk_greet.proofs.acceptor.admit.Goals as goal

pub returns-in_err-answer_hello : goal.returns-in_err-answer_hello
returns-in_err-answer_hello g c =
    let same : c.from_residual-in_err-answer_hello.result ≡ Err c.in_err-answer_hello.field-0.0 = search rules in
    subst (λ r. Admits (g.L.LookUp.finds c.args.lookup.now) c.args.ours.now c.args.challenge r c.args.conn.now c.answer_hello.new.conn) (sym same) (refused (g.L.LookUp.finds c.args.lookup.now) c.args.ours.now c.args.challenge c.args.conn.now c.send_challenge.new.conn c.hear.new.conn c.in-Ok.signed c.look_up-looked.result c.in_ok-send_challenge.ensures c.in-Ok.ensures c.look_up-looked.ensures c.in_err-answer_hello.field-0.0 c.answer_hello.new.conn c.in_err-answer_hello.ensures)

pub returns : goal.returns
returns g c = admitted (g.L.LookUp.finds c.args.lookup.now) c.args.ours.now c.args.challenge c.args.conn.now c.send_challenge.new.conn c.hear.new.conn c.in-Ok.signed c.look_up-looked.result c.in_ok-send_challenge.ensures c.in-Ok.ensures c.look_up-looked.ensures c.answer_hello.new.conn c.in_ok-answer_hello.ensures
