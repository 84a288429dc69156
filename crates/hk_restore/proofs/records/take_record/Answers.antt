use Rattle.std.proofs.Common.{◌≤◌, length, Ok, refl, arith}
use Rattle.std.proofs.lemmas.List.{drop_all}
use Rattle.hk_restore.proofs.records.take_record.Goals as goal

pub returns : goal.returns
returns c =
    let past : length c.args.entries.now ≤ c.loop-entry.entry-index = omega (arith, c.loop-entry-test.false) in
    c.loop-entry.invariant (Ok tt) c.loop-entry.group (rw (drop_all c.loop-entry.entry-index c.args.entries.now past) refl)
