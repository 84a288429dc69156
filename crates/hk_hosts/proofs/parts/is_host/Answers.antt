use Rattle.std.proofs.Common.{rules, ◌≡◌, true, false}
use Rattle.hk_hosts.specs.Addresses.{is_name}
use Rattle.hk_hosts.proofs.Naming.{named, bracketed}
use Rattle.hk_hosts.proofs.parts.is_host.Goals as goal

pub returns-then-is_name : goal.returns-then-is_name
returns-then-is_name c =
    let is : true ≡ is_name c.args.host.now = search rules in
    named c.args.host.now is

pub returns : goal.returns
returns c =
    let is : false ≡ is_name c.args.host.now = search rules in
    bracketed c.args.host.now c.is_bracketed.result is c.is_bracketed.ensures
