use Rattle.std.proofs.Common.{◌≡◌, ◌++◌, ◌∷◌, [], rules}
use Rattle.std.proofs.lemmas.Result.{err_from_is_err_and}
use Rattle.hk_fields.specs.Fields.{many}
use Rattle.hk_fields.proofs.Many.{goes_on, stops, ends}
use Rattle.hk_inside.specs.Reading.{seen_at}
use Rattle.hk_inside.proofs.reports.many_nodes.Goals as goal

pub returns-in_err-node : goal.returns-in_err-node
returns-in_err-node c =
    let p = err_from_is_err_and c.from_residual.result c.from_residual.ensures.1 in
    rw (p.1, p.2) (stops seen_at c.in_err-node.field-0.0 c.loop.nodes c.args.count c.loop.counter c.loop.rest.now (many seen_at c.args.count c.args.bytes.now) c.loop-test.true c.in_err-node.ensures c.loop.invariant)

pub loop-preserved : goal.loop-preserved
loop-preserved c =
    let e : c.push.new.self ≡ c.loop.nodes ++ c.in_ok-node.node ∷ [] = search rules in
    rw e (goes_on seen_at c.loop.nodes c.args.count c.loop.counter c.loop.rest.now c.in_ok-node.node c.in_ok-node.after.now (many seen_at c.args.count c.args.bytes.now) c.loop-test.true c.in_ok-node.ensures c.loop.invariant)

pub returns : goal.returns
returns c = ends seen_at c.loop.nodes c.args.count c.loop.counter c.loop.rest.now (many seen_at c.args.count c.args.bytes.now) c.loop-test.false c.loop.invariant
