use Rattle.hk_node.proofs.Stamps.{begin_raises}
use Rattle.hk_node.proofs.laws.calls_raise_stamps.Goals as goal

pub returns : goal.returns
returns c = begin_raises
