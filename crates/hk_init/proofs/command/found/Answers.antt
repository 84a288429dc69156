use Rattle.std.proofs.Common.{rules, ◌≡◌, Err}
use Rattle.hk_init.specs.Phases.{Founds, Opens}
use Rattle.hk_init.proofs.Joining.{then_ends, then_goes_on}
use Rattle.hk_init.proofs.command.found.Goals as goal

pub returns-in_err-found_all : goal.returns-in_err-found_all
returns-in_err-found_all g c =
    let is : c.from_residual.result ≡ Err c.in_err-found_all.field-0.0 = search rules in
    then_ends (Founds c.args.began c.args.count c.args.inquiry.now) (λ done. Opens c.args.words.now c.args.count) _ _ _ _ c.in_err-found_all.ensures is

pub returns : goal.returns
returns g c = then_goes_on (Founds c.args.began c.args.count c.args.inquiry.now) (λ done. Opens c.args.words.now c.args.count) _ _ _ _ _ c.in_ok-found_all.ensures c.await_all.ensures
