use Rattle.std.proofs.Common.{List, ℕ, subst}
use Rattle.hk_host_words.specs.Reading.{IsReading, IsCopy}
use Rattle.hk_host_words.proofs.HostLists.{copied}
use Rattle.hk_host_words.proofs.node.copy_address.Goals as goal

pub returns : goal.returns
returns c = copied c.args.address.now c.copy_host.result (subst (λ (host : List ℕ). IsReading (IsCopy host c.args.address.now.port) c.copy_host.result) c.as_slice.ensures c.copy_host.ensures)
