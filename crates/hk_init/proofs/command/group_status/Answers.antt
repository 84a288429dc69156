use Rattle.std.proofs.Common.{rules, ◌≡◌, Err}
use Rattle.hk_init.specs.Init.{FirstAnswers, ShowsOk}
use Rattle.hk_init.proofs.Joining.{then_ends, then_goes_on}
use Rattle.hk_init.proofs.command.group_status.Goals as goal

pub returns-in_err-text : goal.returns-in_err-text
returns-in_err-text g c =
    let is : c.from_residual.result ≡ Err c.in_err-text.field-0.0 = search rules in
    then_ends (FirstAnswers c.args.count) (ShowsOk c.args.count) _ _ _ _ c.in_err-text.ensures is

pub returns : goal.returns
returns g c = then_goes_on (FirstAnswers c.args.count) (ShowsOk c.args.count) _ _ _ c.in_ok-text.text _ c.in_ok-text.ensures c.shown.ensures
