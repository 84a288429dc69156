use Rattle.std.proofs.Common.{rules, ◌≡◌, ◌++◌, ◌∷◌, [], ◌≤◌, length}
use Rattle.std.proofs.lemmas.Result.{err_from_is_err_and}
use Rattle.hk_log.proofs.Bodies.{goes_on, stops}
use Rattle.hk_log.proofs.records.read_body.Goals as goal

pub returns-in_err-entry : goal.returns-in_err-entry
returns-in_err-entry c =
    let p = err_from_is_err_and c.from_residual.result c.from_residual.ensures.1 in
    let some : 1 ≤ length c.loop-rest.rest.now = search rules in
    rw (p.1, p.2) (stops c.in_err-entry.field-0.0 c.loop-rest.entries c.args.body.now c.loop-rest.rest.now c.loop-rest.invariant some c.in_err-entry.ensures)

pub loop-rest-smaller : goal.loop-rest-smaller
loop-rest-smaller c = (goes_on c.loop-rest.entries c.args.body.now c.loop-rest.rest.now c.in_ok-entry.entry c.in_ok-entry.after.now c.loop-rest.invariant c.in_ok-entry.ensures).1

pub loop-rest-preserved : goal.loop-rest-preserved
loop-rest-preserved c =
    let e : c.push.new.self ≡ c.loop-rest.entries ++ c.in_ok-entry.entry ∷ [] = search rules in
    rw e (goes_on c.loop-rest.entries c.args.body.now c.loop-rest.rest.now c.in_ok-entry.entry c.in_ok-entry.after.now c.loop-rest.invariant c.in_ok-entry.ensures).0
