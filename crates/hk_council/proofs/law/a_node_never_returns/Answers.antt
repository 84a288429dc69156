use Rattle.hk_council.proofs.Leaving.{never_returns}
use Rattle.hk_council.proofs.law.a_node_never_returns.Goals as goal

pub returns : goal.returns
returns c = never_returns
