use Rattle.hk_told.proofs.Steps.{reads_leave_nodes}
use Rattle.hk_told.proofs.laws.reads_leave_nodes.Goals as goal

pub returns : goal.returns
returns c = reads_leave_nodes
