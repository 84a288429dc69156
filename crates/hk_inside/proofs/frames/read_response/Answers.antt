use Rattle.std.proofs.Common.{ℕ, List, take, drop, sym, ap, subst, ◌∙◌, arith}
use Rattle.std.proofs.lemmas.Result.{err_from_is_err_and}
use Rattle.hk_fields.specs.Fields.{Fails}
use Rattle.hk_inside.specs.Reading.{response_at}
use Rattle.hk_inside.proofs.ReadAgain.{response_end_error, response_body_error, response_found, response_found_as, response_error_as}
use Rattle.hk_inside.proofs.frames.read_response.Goals as goal

pub returns-in_err-end-clause-exact : goal.returns-in_err-end-clause-exact
returns-in_err-end-clause-exact c =
    let p = err_from_is_err_and c.from_residual.result c.from_residual.ensures.1 in
    rw (p.1, p.2) (response_end_error c.args.bytes.now c.in_err-end.field-0.0 (sym c.in_err-end.ensures.exact))

pub returns-in_err-end-clause-only : goal.returns-in_err-end-clause-only
returns-in_err-end-clause-only c = λ m rest f g.
    (let p = err_from_is_err_and c.from_residual.result c.from_residual.ensures.1 in
    rw (p.1, p.2) (response_error_as c.args.bytes.now c.in_err-end.field-0.0 (response_end_error c.args.bytes.now c.in_err-end.field-0.0 (sym c.in_err-end.ensures.exact)) m rest f g))

pub returns-in-Ok-clause-exact : goal.returns-in-Ok-clause-exact
returns-in-Ok-clause-exact c = response_found c.args.bytes.now c.in_ok-end.end c.in-Ok.response (λ i. omega (arith, c.type_inv.bytes i)) (sym c.in_ok-end.ensures.exact) (ap response_at (sym c.inside.ensures) ∙ c.in-Ok.ensures)

pub returns-in-Ok-clause-only : goal.returns-in-Ok-clause-only
returns-in-Ok-clause-only c = λ m rest f g. response_found_as c.args.bytes.now c.in_ok-end.end c.in-Ok.response m rest (sym c.in_ok-end.ensures.exact) (ap response_at (sym c.inside.ensures) ∙ c.in-Ok.ensures) f g

pub returns-in-Err-clause-exact : goal.returns-in-Err-clause-exact
returns-in-Err-clause-exact c =
    let fails : Fails c.in-Err.fault (response_at (drop 4 (take c.in_ok-end.end c.args.bytes.now))) = subst (λ (z : List ℕ). Fails c.in-Err.fault (response_at z)) c.inside.ensures c.in-Err.ensures in
    rw c.from.ensures (response_body_error c.args.bytes.now c.in_ok-end.end c.in-Err.fault (sym c.in_ok-end.ensures.exact) fails)

pub returns-in-Err-clause-only : goal.returns-in-Err-clause-only
returns-in-Err-clause-only c = λ m rest f g. response_error_as c.args.bytes.now c.from.result (returns-in-Err-clause-exact c) m rest f g
