use Rattle.std.proofs.Common.{rules, ◌≡◌, Err}
use Rattle.hk_init.proofs.Rounds.{failed_never}
use Rattle.hk_init.proofs.command.leave.Goals as goal

pub returns-in_err-line-clause-failed : goal.returns-in_err-line-clause-failed
returns-in_err-line-clause-failed g c wrote =
    let is : c.from_residual.result ≡ Err c.in_err-line.field-0.0 = search rules in
    failed_never c.args.who c.args.count _ _ _ _ _ _ c.in_err-line.ensures is wrote
