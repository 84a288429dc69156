use Rattle.hk_hosts.proofs.Naming.{is_told}
use Rattle.hk_hosts.proofs.parts.is_ipv6.Goals as goal

pub returns : goal.returns
returns c = is_told c.args.text.now c.parse.result c.is_ok.result c.parse.ensures.value c.is_ok.ensures.value
