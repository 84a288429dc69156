use Rattle.hk_earned.proofs.Working.{worked_run}
use Rattle.hk_earned.proofs.law.a_view_leaves_out_a_node.Goals as goal

pub returns : goal.returns
returns c = worked_run
