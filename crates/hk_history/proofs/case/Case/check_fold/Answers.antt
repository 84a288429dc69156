-- Nothing is left of the order.
use Rattle.std.proofs.Common.{◌≤◌, Ok, length, arith}
use Rattle.std.proofs.lemmas.List.{drop_all}
use Rattle.hk_history.proofs.case.Case.check_fold.Goals as goal

pub returns : goal.returns
returns c =
    let past : length c.args.self.now.order.now ≤ c.loop-entry.entry-index = omega arith in
    c.loop-entry.invariant (Ok tt) (rw (drop_all c.loop-entry.entry-index c.args.self.now.order.now past) (tt, tt))
