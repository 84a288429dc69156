use Rattle.std.proofs.Common.{◌<◌, length, ap, arith}
use Rattle.hk_routes.specs.Outlets.{way_of}
use Rattle.hk_routes.proofs.Splitting.{olds_next, news_next, ways_stay, on_err}
use Rattle.hk_routes.proofs.outlets.split_each.Goals as goal

pub returns-in_err-one-clause-err : goal.returns-in_err-one-clause-err
returns-in_err-one-clause-err c =
    let xs = c.args.outlets.now.items in
    let low : c.loop-place.place < length xs = omega (arith, c.loop-place-test.true, c.len-place-end.ensures, c.args.outlets.now.ok.0) in
    on_err c.from_residual.result
    (ways_stay xs c.loop-place.outlets.items c.loop-place.place c.index_mut.result.now c.split_one.new.outlet low c.loop-place.invariant.olds c.index_mut.ensures.value (ap way_of c.in_err-one.ensures.err))

pub returns-in_err-push-clause-err : goal.returns-in_err-push-clause-err
returns-in_err-push-clause-err c =
    let xs = c.args.outlets.now.items in
    let low : c.loop-place.place < length xs = omega (arith, c.loop-place-test.true, c.len-place-end.ensures, c.args.outlets.now.ok.0) in
    on_err c.from_residual-in_err-push.result
    (ways_stay xs c.loop-place.outlets.items c.loop-place.place c.index_mut.result.now c.split_one.new.outlet low c.loop-place.invariant.olds c.index_mut.ensures.value (ap way_of c.in_ok-one.ensures.old))

pub loop-place-preserved : goal.loop-place-preserved
loop-place-preserved c =
    let xs = c.args.outlets.now.items in
    let low : c.loop-place.place < length xs = omega (arith, c.loop-place-test.true, c.len-place-end.ensures, c.args.outlets.now.ok.0) in record {
      olds = olds_next xs c.loop-place.outlets.items c.loop-place.place c.index_mut.result.now c.split_one.new.outlet low c.loop-place.invariant.olds c.index_mut.ensures.value c.in_ok-one.ensures.old;
      news = news_next xs c.loop-place.outlets.items c.loop-place.place c.index_mut.result.now c.split_one.new.outlet low c.loop-place.invariant.olds c.index_mut.ensures.value c.loop-place.more c.push.new.self c.in_ok-one.one c.loop-place.invariant.news c.in_ok-push.ensures.ok c.in_ok-one.ensures.new;
    }
