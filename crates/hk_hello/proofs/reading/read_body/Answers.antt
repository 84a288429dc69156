use Rattle.std.proofs.Common.{rules, ◌≡◌, [], true, false, length, arith}
use Rattle.std.proofs.lemmas.Result.{err_from_is_err_and}
use Rattle.hk_hello.proofs.Hellos.{body_stops, body_longer, body_is}
use Rattle.hk_hello.proofs.reading.read_body.Goals as goal

pub returns-in_err-signed : goal.returns-in_err-signed
returns-in_err-signed c =
    let p = err_from_is_err_and c.from_residual.result c.from_residual.ensures.1 in
    rw (p.1, p.2) (body_stops c.in_err-signed.field-0.0 c.args.body.now c.in_err-signed.ensures)

pub returns-then-not-is_empty : goal.returns-then-not-is_empty
returns-then-not-is_empty c =
    let some : c.in_ok-signed.rest.now ≡ [] → true ≡ false = search rules in
    body_longer c.args.body.now c.in_ok-signed.signed c.in_ok-signed.rest.now c.in_ok-signed.ensures some

pub returns : goal.returns
returns c =
    let none : length c.in_ok-signed.rest.now ≡ 0 = search rules in
    body_is c.args.body.now c.in_ok-signed.signed c.in_ok-signed.rest.now (λ i. omega (arith, c.type_inv.body i)) c.in_ok-signed.ensures none
