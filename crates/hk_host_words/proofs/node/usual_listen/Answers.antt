use Rattle.std.proofs.Common.{List, ℕ, ◌≤◌, ◌+◌, length, decimal, arith, ap, subst}
use Rattle.hk_hosts.specs.declared.address.TheConstants.{MAX_ADDRESS_LEN}
use Rattle.hk_host_words.specs.declared.words.TheConstants.{CLIENT_PORT}
use Rattle.hk_host_words.specs.Reading.{IsReading, IsCopy}
use Rattle.hk_host_words.proofs.HostLists.{usual}
use Rattle.hk_host_words.proofs.node.usual_listen.Goals as goal

pub returns : goal.returns
returns c =
    let fits : length c.args.inside.now.host + 1 + length (decimal CLIENT_PORT) ≤ MAX_ADDRESS_LEN =
    omega (arith, ap (λ (l : List ℕ). length l) c.as_slice-host.ensures, c.port_len.ensures.exact) in
    usual c.args.inside.now c.copy_host.result fits (subst (λ (host : List ℕ). IsReading (IsCopy host CLIENT_PORT) c.copy_host.result) c.as_slice-host.ensures c.copy_host.ensures)
