use Rattle.std.proofs.Common.{◌≤◌, length, Ok, refl, arith}
use Rattle.std.proofs.lemmas.List.{drop_all}
use Rattle.hk_restore.proofs.records.take_records.Goals as goal

pub returns : goal.returns
returns c =
    let past : length c.args.records.now ≤ c.loop-index.index = omega (arith, c.loop-index-test.false) in
    c.loop-index.invariant (Ok tt) c.loop-index.group (rw (drop_all c.loop-index.index c.args.records.now past) refl)
