use Rattle.std.proofs.Common.{◌≡◌, ◌++◌, ◌∷◌, [], rules}
use Rattle.std.proofs.lemmas.Result.{err_from_is_err_and}
use Rattle.hk_fields.specs.Fields.{many}
use Rattle.hk_fields.proofs.Many.{goes_on, stops, ends}
use Rattle.hk_inside.specs.Reading.{line_at}
use Rattle.hk_inside.proofs.responses.many_lines.Goals as goal

pub returns-in_err-line : goal.returns-in_err-line
returns-in_err-line c =
    let p = err_from_is_err_and c.from_residual.result c.from_residual.ensures.1 in
    rw (p.1, p.2) (stops line_at c.in_err-line.field-0.0 c.loop.lines c.args.count c.loop.counter c.loop.rest.now (many line_at c.args.count c.args.bytes.now) c.loop-test.true c.in_err-line.ensures c.loop.invariant)

pub loop-preserved : goal.loop-preserved
loop-preserved c =
    let e : c.push.new.self ≡ c.loop.lines ++ c.in_ok-line.line ∷ [] = search rules in
    rw e (goes_on line_at c.loop.lines c.args.count c.loop.counter c.loop.rest.now c.in_ok-line.line c.in_ok-line.after.now (many line_at c.args.count c.args.bytes.now) c.loop-test.true c.in_ok-line.ensures c.loop.invariant)

pub returns : goal.returns
returns c = ends line_at c.loop.lines c.args.count c.loop.counter c.loop.rest.now (many line_at c.args.count c.args.bytes.now) c.loop-test.false c.loop.invariant
