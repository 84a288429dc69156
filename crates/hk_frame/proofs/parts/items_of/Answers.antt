use Rattle.std.proofs.Common.{◌≡◌, ◌++◌, ◌∷◌, [], rules}
use Rattle.std.proofs.lemmas.Result.{err_from_is_err_and}
use Rattle.hk_frame.specs.Reading.{items_of}
use Rattle.hk_frame.proofs.Loops.{items_go_on, items_stop, items_done}
use Rattle.hk_frame.proofs.parts.items_of.Goals as goal

pub returns-in_err-item : goal.returns-in_err-item
returns-in_err-item c =
    let p = err_from_is_err_and c.from_residual.result c.from_residual.ensures.1 in
    rw (p.1, p.2) (items_stop c.in_err-item.field-0.0 c.loop.items c.args.count c.loop.counter c.loop.rest.now (items_of c.args.count c.args.bytes.now) c.loop-test.true c.in_err-item.ensures c.loop.invariant)

pub loop-preserved : goal.loop-preserved
loop-preserved c =
    let e : c.push.new.self ≡ c.loop.items ++ c.in_ok-item.item ∷ [] = search rules in
    rw e (items_go_on c.loop.items c.args.count c.loop.counter c.loop.rest.now c.in_ok-item.item c.in_ok-item.after.now (items_of c.args.count c.args.bytes.now) c.loop-test.true c.in_ok-item.ensures c.loop.invariant)

pub returns : goal.returns
returns c = items_done c.loop.items c.args.count c.loop.counter c.loop.rest.now (items_of c.args.count c.args.bytes.now) c.loop-test.false c.loop.invariant
