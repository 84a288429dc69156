use Rattle.std.proofs.Common.{rules, ◌≡◌, Err}
use Rattle.hk_init.proofs.Joining.{agreed_ends, agreed_goes_on}
use Rattle.hk_init.proofs.command.found_with.Goals as goal

pub returns-in_err-hosts : goal.returns-in_err-hosts
returns-in_err-hosts g c =
    let is : c.from_residual.result ≡ Err c.in_err-hosts.field-0.0 = search rules in
    agreed_ends c.args.words.now _ c.args.founding c.args.began c.args.states.now _ _ _ c.in_err-hosts.ensures is

pub returns : goal.returns
returns g c = agreed_goes_on c.args.words.now _ c.args.founding c.args.began c.args.states.now _ _ c.in_ok-hosts.hosts _ c.in_ok-hosts.ensures c.found.ensures
