use Rattle.hk_shard.proofs.Lasting.{leases_never_fall}
use Rattle.hk_shard.proofs.laws.leases_never_fall.Goals as goal

pub returns : goal.returns
returns c = leases_never_fall
